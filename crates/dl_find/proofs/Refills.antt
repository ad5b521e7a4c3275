-- A file that is read in pieces.
use Rattle.std.proofs.Common.{◌≡◌, ◌≢◌, ℕ, ◌+◌, ◌<◌, ◌≤◌, Bool, true, false, List, [], ◌∷◌, ◌++◌, length, take, drop, Option, Some, None, refl, sym, ap, subst, ◌∙◌, append_assoc, append-nil, length-append, inl, inr, arith}
use Rattle.std.specs.Prelude.{◌⊎◌, ◌-◌, min, IfSome, Result, Ok, Err}
use Rattle.std.specs.FinMap as map
use Rattle.std.proofs.Math.Seq.{drop-drop, take-add}
use Rattle.std.proofs.lemmas.List.{drop_all, drop_min, length-drop, length-take, take-append-drop}
use Rattle.dl_outside.specs.Folder.{Files}
use Rattle.dl_outside.specs.Outside.{Stays}
use Rattle.dl_outside.specs.Told.{FolderTold}
use Rattle.dl_outside.proofs.Staying.{stays_both}
use Rattle.dl_pieces.specs.Pieces.{AreReadAt}
use Rattle.dl_sessions.specs.Follows.{EndsBad}
use Rattle.dl_sessions.specs.Gaps.{counted}
use Rattle.dl_sessions.specs.Stream.{end_of, first_place, rest_behind}
use Rattle.dl_sessions.specs.declared.stream.End.{End}
use Rattle.dl_sessions.specs.declared.stream.End.TheVariants as end
use Rattle.dl_sessions.specs.declared.stream.Place.{Place}
use Rattle.dl_sessions.proofs.Readings.{first-append}
use Rattle.dl_trace_files.specs.Left.{IsLeft}
use Rattle.dl_trace_files.proofs.Looking.{left_on, left_same}
use Rattle.dl_find.specs.Rests.{Fronts, HasFront, HasMore, HasRead, HoldsFront, IsFront, IsKnown, IsThere, SameLeft, StandsHere, WhereThere, at_end, left_of, rest_of}
use Rattle.dl_find.specs.declared.reader.Front.{Front}
use Rattle.dl_find.specs.declared.reader.Front.TheVariants as front
use Rattle.dl_find.specs.declared.reader.Reader.{Reader}

-- ---- one piece

-- what is left, where these bytes of it were read
same_left : (file : List ℕ) (old new : Reader) (piece : List ℕ) (count : ℕ) → rest_of new ≡ rest_of old ++ take count piece → new.read ≡ old.read + count → take count piece ≡ take count (drop old.read file) → left_of file new ≡ left_of file old
same_left file old new piece count more next is =
    let there = drop old.read file in
    (λ i. more i ++ drop (next i) file) ∙ ap (λ (l : List ℕ). (rest_of old ++ take count piece) ++ l) (sym (drop-drop count old.read file)) ∙ append_assoc (rest_of old) (take count piece) (drop count there)
    ∙ ap (λ (l : List ℕ). rest_of old ++ l) (ap (λ (l : List ℕ). l ++ drop count there) is ∙ take-append-drop count there)

abbrev pub IsPiece : Option Files → List ℕ → ℕ → ℕ → List ℕ → Type 0
IsPiece told name place count piece = IfSome told (λ files. (file : List ℕ) × (map.get files name ≡ Some file) × AreReadAt file place count piece)

same_file : (a b : List ℕ) → Some a ≡ Some b → a ≡ b
same_file a b is = cc

same_there : (told : Option Files) (name : List ℕ) (old new : Reader) (piece : List ℕ) (count : ℕ) → rest_of new ≡ rest_of old ++ take count piece → new.read ≡ old.read + count → IsPiece told name old.read count piece
    → SameLeft told name old new
same_there None name old new piece count more next is = tt
same_there (Some files) name old new piece count more next is = λ file at.
    let same : is.0 ≡ file = same_file is.0 file (sym is.1 ∙ at) in
    same_left file old new piece count more next (is.2.0 ∙ ap (λ (l : List ℕ). take count (drop old.read l)) same)

ends_there : (told : Option Files) (name : List ℕ) (old new : Reader) (piece : List ℕ) (count : ℕ) → new.read ≡ old.read + count → IsPiece told name old.read count piece → IsThere told name (λ file. count ≡ 0 → drop new.read file ≡ [])
ends_there None name old new piece count next is = tt
ends_there (Some files) name old new piece count next is = (is.0, is.1, λ none. drop_all new.read is.0 (omega (arith, next, is.2.2 none)))

pub has_read : (told : Option Files) (name : List ℕ) (old new : Reader) (piece part : List ℕ) (count : ℕ) → count ≤ length piece → part ≡ take count piece → HasMore old part new
    → IsPiece told name old.read count piece → HasRead name told old new count
has_read told name old new piece part count within part_is more is =
    let rest = more.rest_is ∙ ap (λ (l : List ℕ). rest_of old ++ l) part_is in
    let next : new.read ≡ old.read + count = omega (arith, more.read_is, within, ap length part_is, length-take count piece) in
    record {
      same = same_there told name old new piece count rest next is;
      read_is = next;
      offset_is = more.offset_is;
      there = ends_there told name old new piece count next is;
      none = λ zero. rest ∙ ap (λ (n : ℕ). rest_of old ++ take n piece) zero ∙ append-nil (rest_of old);
    }

-- ---- the front

-- the pieces so far
pub record IsFilling (name : List ℕ) (told told_now : FolderTold) (old new : Reader) : Type 0 where
  pub same : SameLeft told.files name old new
  pub offset_is : new.offset ≡ old.offset
  pub known : IsKnown name told.files old → IsKnown name told.files new
  pub left : IsLeft told told_now
  pub well : told_now.faults ≡ told.faults

no_change : (told : Option Files) (name : List ℕ) (reader : Reader) → SameLeft told name reader reader
no_change None name reader = tt
no_change (Some files) name reader = λ file at. refl

pub sets_out : (name : List ℕ) (told : FolderTold) (reader : Reader) → IsFilling name told told reader reader
sets_out name told reader = record { same = no_change told.files name reader; offset_is = refl; known = λ known. known; left = left_same told; well = refl }

same_on : (told : Option Files) (name : List ℕ) (old mid new : Reader) → SameLeft told name old mid → SameLeft told name mid new → SameLeft told name old new
same_on None name old mid new first second = tt
same_on (Some files) name old mid new first second = λ file at. second file at ∙ first file at

earlier : (old now : Option Files) (P : Files → Type 0) → Stays old now → IfSome now P → IfSome old P
earlier None now P stays so = tt
earlier (Some files) now P stays so = subst (λ (m : Option Files). IfSome m P) stays so

there_weaker : (told : Option Files) (name : List ℕ) (P : List ℕ → Type 0) → IsThere told name P → IsThere told name (λ file. Unit {0})
there_weaker None name P is = tt
there_weaker (Some files) name P is = (is.0, is.1, tt)

-- a piece more
pub goes_on : (name : List ℕ) (told mid now : FolderTold) (old reader new : Reader) (count : ℕ) → IsFilling name told mid old reader → HasRead name mid.files reader new count → IsLeft mid now → now.faults ≡ mid.faults
    → IsFilling name told now old new
goes_on name told mid now old reader new count so_far read left well = record {
  same = same_on told.files name old reader new so_far.same (earlier told.files mid.files (λ files. (file : List ℕ) → map.get files name ≡ Some file → left_of file new ≡ left_of file reader) so_far.left.files read.same);
  offset_is = read.offset_is ∙ so_far.offset_is;
  known = λ known. inr (there_weaker told.files name (λ file. count ≡ 0 → drop new.read file ≡ [])
      (earlier told.files mid.files (λ files. (file : List ℕ) × (map.get files name ≡ Some file) × (count ≡ 0 → drop new.read file ≡ [])) so_far.left.files read.there));
  left = left_on told mid now so_far.left left;
  well = well ∙ so_far.well;
}

-- what stands at the front whatever follows
front_there : (told : Option Files) (name : List ℕ) (reader : Reader) (at : Front) → ((file : List ℕ) → IsFront (left_of file reader) at) → (rest_of reader ≡ [] → ⊥) → IsKnown name told reader
    → IsThere told name (λ file. IsFront (left_of file reader) at)
front_there told name reader at is some (inl none) = absurd (some none)
front_there None name reader at is some (inr there) = tt
front_there (Some files) name reader at is some (inr there) = (there.0, there.1, is there.0)

no_place : first_place [] ≡ None
no_place = refl

not_both : {A : Type 0} (o : Option A) (x : A) → o ≡ Some x → o ≡ None → ⊥
not_both None x some none = cc
not_both (Some y) x some none = cc

not_whole : end_of [] ≡ end.Bad → ⊥
not_whole is = cc

pub stands : (name : List ℕ) (told now : FolderTold) (old new : Reader) (at : Front) → IsFilling name told now old new → StandsHere (rest_of new) (Some at) → Fronts name told.files old new (Ok at)
stands name told now old new (front.Message place) so_far here = record {
  same = so_far.same;
  offset_is = so_far.offset_is;
  holds = here;
  known = λ known. front_there told.files name new (front.Message place) (λ file. first-append (rest_of new) (drop new.read file) place here)
      (λ none. not_both (first_place (rest_of new)) place here (ap first_place none ∙ no_place)) (so_far.known known);
}
stands name told now old new front.Bad so_far here = record {
  same = so_far.same;
  offset_is = so_far.offset_is;
  holds = tt;
  known = λ known. front_there told.files name new front.Bad (λ file. here (drop new.read file))
      (λ none. not_whole (sym (ap (λ (l : List ℕ). end_of (l ++ [])) none) ∙ (here []).1)) (so_far.known known);
}
stands name told now old new front.End so_far here = absurd here
stands name told now old new front.Missing so_far here = absurd here

-- the file's end
end_there : (told : Option Files) (name : List ℕ) (reader : Reader) (at : Front) → IsFront (rest_of reader) at → IsThere told name (λ file. drop reader.read file ≡ []) → IsThere told name (λ file. IsFront (left_of file reader) at)
end_there None name reader at is there = tt
end_there (Some files) name reader at is there =
    (there.0, there.1, subst (λ (l : List ℕ). IsFront l at) (sym (ap (λ (l : List ℕ). rest_of reader ++ l) there.2 ∙ append-nil (rest_of reader))) is)

with_none : (told : Option Files) (name : List ℕ) (reader : Reader) (count : ℕ) → count ≡ 0 → IsThere told name (λ file. count ≡ 0 → drop reader.read file ≡ []) → IsThere told name (λ file. drop reader.read file ≡ [])
with_none None name reader count none there = tt
with_none (Some files) name reader count none there = (there.0, there.1, there.2 none)

end_front : (rest : List ℕ) (e : End) → end_of rest ≡ e → first_place rest ≡ None → IsFront rest (at_end e)
end_front rest end.Bad is none = (none, is)
end_front rest end.Whole is none = (none, λ bad. whole_bad (sym is ∙ bad)) where
  whole_bad : end.Whole ≡ end.Bad → ⊥
  whole_bad e = cc
end_front rest end.Within is none = (none, λ bad. within_bad (sym is ∙ bad)) where
  within_bad : end.Within ≡ end.Bad → ⊥
  within_bad e = cc

pub ends : (name : List ℕ) (told mid now : FolderTold) (old reader new : Reader) (count : ℕ) (at : Front) → IsFilling name told mid old reader → HasRead name mid.files reader new count → IsLeft mid now → now.faults ≡ mid.faults
    → count ≡ 0 → first_place (rest_of reader) ≡ None → at ≡ at_end (end_of (rest_of new)) → Fronts name told.files old new (Ok at)
ends name told mid now old reader new count at so_far read left well none no_message_yet is =
    let no_message : first_place (rest_of new) ≡ None = ap first_place (read.none none) ∙ no_message_yet in
    let on = goes_on name told mid now old reader new count so_far read left well in
    let there = with_none told.files name new count none (earlier told.files mid.files (λ files. (file : List ℕ) × (map.get files name ≡ Some file) × (count ≡ 0 → drop new.read file ≡ [])) so_far.left.files read.there) in
    subst (λ (a : Front). Fronts name told.files old new (Ok a)) (sym is) (by_end no_message (end_of (rest_of new)) refl on there)
  where
    front_at : first_place (rest_of new) ≡ None → (e : End) → end_of (rest_of new) ≡ e → IsFilling name told now old new → IsThere told.files name (λ file. drop new.read file ≡ []) → HoldsFront new (at_end e) → HasFront name told.files old new (at_end e)
    front_at no_message e end_is on there holds = record {
      same = on.same;
      offset_is = on.offset_is;
      holds = holds;
      known = λ known. end_there told.files name new (at_end e) (end_front (rest_of new) e end_is no_message) there;
    }

    by_end : first_place (rest_of new) ≡ None → (e : End) → end_of (rest_of new) ≡ e → IsFilling name told now old new → IsThere told.files name (λ file. drop new.read file ≡ []) → Fronts name told.files old new (Ok (at_end e))
    by_end no_message end.Bad end_is on there = front_at no_message end.Bad end_is on there tt
    by_end no_message end.Whole end_is on there = front_at no_message end.Whole end_is on there tt
    by_end no_message end.Within end_is on there = front_at no_message end.Within end_is on there tt

-- ---- a message is given

drop_back : (n : ℕ) (xs : List ℕ) → drop (length xs - length (drop n xs)) xs ≡ drop n xs
drop_back n xs =
    let same : length xs - length (drop n xs) ≡ min n (length xs) = omega (arith, length-drop n xs) in
    ap (λ (k : ℕ). drop k xs) same ∙ drop_min n xs

pub given_there : (place : Place) (held : List ℕ) (given : ℕ) → drop (length held - length (rest_behind place (drop given held))) held ≡ rest_behind place (drop given held)
given_there place held given =
    let all : rest_behind place (drop given held) ≡ drop ((given + place.before) + place.len) held = ap (drop place.len) (drop-drop place.before given held) ∙ drop-drop place.len (given + place.before) held in
    ap (λ (l : List ℕ). drop (length held - length l) held) all ∙ drop_back ((given + place.before) + place.len) held ∙ sym all
