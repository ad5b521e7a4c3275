-- A file that is read in pieces.
use Rattle.std.proofs.Common.{◌≡◌, ℕ, ◌+◌, ◌<◌, ◌≤◌, List, [], ◌++◌, length, take, drop, Option, Some, None, refl, sym, ap, subst, ◌∙◌, length-append, take-append-drop, inl, inr, arith}
use Rattle.std.specs.Prelude.{IfSome, OnOk, Result, Ok, Err, is_err, false}
use Rattle.std.specs.FinMap as map
use Rattle.std.proofs.Math.Seq.{take-add}
use Rattle.std.proofs.lemmas.List.{append-nil, length-take, take_all}
use Rattle.dl_outside.specs.Folder.{Files}
use Rattle.dl_outside.specs.Outside.{Stays}
use Rattle.dl_outside.specs.Told.{FolderTold}
use Rattle.dl_pieces.specs.Pieces.{AreReadAt}
use Rattle.dl_sessions.specs.Follows.{EndsBad, Follows, IsAt}
use Rattle.dl_sessions.specs.declared.follower.Follower.{Follower}
use Rattle.dl_sessions.specs.declared.session.Told.{Told}
use Rattle.dl_sessions.proofs.Following.{begins}
use Rattle.dl_trace_files.specs.Left.{IsLeft}
use Rattle.dl_trace_why.specs.Reading.{IsThere}
use Rattle.dl_trace_why.specs.Reads.{AreEnough, HasRead}

-- the bytes of a file so far are its first ones, where the folder tells it
pub record IsWithin (before : List Told) (name : List ℕ) (told : Option Files) (place : ℕ) (follower : Follower) : Type 0 where
  pub bytes : List ℕ
  pub follows : Follows before bytes follower
  pub place_is : place ≡ length bytes
  pub first : IfSome told (λ files. (file : List ℕ) → map.get files name ≡ Some file → bytes ≡ take place file)

-- the pieces so far: the folder is left as it was
pub record AreReading (name : List ℕ) (old now : FolderTold) (follower follower_now : Follower) (place : ℕ) : Type 0 where
  pub within : (before : List Told) → IsAt before follower → IsWithin before name old.files place follower_now
  pub left : IsLeft old now
  pub well : now.faults ≡ old.faults

-- what a read tells of a file
abbrev pub IsPiece : Option Files → List ℕ → ℕ → ℕ → List ℕ → Type 0
IsPiece told name place count piece = IfSome told (λ files. (file : List ℕ) × (map.get files name ≡ Some file) × AreReadAt file place count piece)

first_none : (told : Option Files) (name : List ℕ) → IfSome told (λ files. (file : List ℕ) → map.get files name ≡ Some file → [] ≡ take 0 file)
first_none None name = tt
first_none (Some files) name = λ file is. refl

pub sets_out : (before : List Told) (name : List ℕ) (told : Option Files) (follower : Follower) → IsAt before follower → IsWithin before name told 0 follower
sets_out before name told follower at = record { bytes = []; follows = begins before follower at; place_is = refl; first = first_none told name }

-- what a call says that was not refused
pub ok_says : {A E P : Type 0} (r : Result A E) → is_err r ≡ false → OnOk r P → P
ok_says (Ok x) good so = so
ok_says (Err e) good so = absurd cc

-- the same of the folder as it was
earlier : (old now : Option Files) (P : Files → Type 0) → Stays old now → IfSome now P → IfSome old P
earlier None now P stays so = tt
earlier (Some files) now P stays so = subst (λ (m : Option Files). IfSome m P) stays so

pub missing : (old now : Option Files) (name : List ℕ) → Stays old now → IfSome now (λ files. map.get files name ≡ None) → IfSome old (λ files. map.get files name ≡ None)
missing old now name stays none = earlier old now (λ files. map.get files name ≡ None) stays none

same_file : (a b : List ℕ) → Some a ≡ Some b → a ≡ b
same_file a b is = cc

first_more : (told : Option Files) (name bytes piece : List ℕ) (place count : ℕ) → IfSome told (λ files. (file : List ℕ) → map.get files name ≡ Some file → bytes ≡ take place file) → IsPiece told name place count piece
    → IfSome told (λ files. (file : List ℕ) → map.get files name ≡ Some file → bytes ++ take count piece ≡ take (place + count) file)
first_more None name bytes piece place count first is = tt
first_more (Some files) name bytes piece place count first is = λ file at.
    let same : is.0 ≡ file = same_file is.0 file (sym is.1 ∙ at) in
    ap (λ (l : List ℕ). l ++ take count piece) (first file at) ∙ ap (λ (l : List ℕ). take place file ++ l) (is.2.0 ∙ ap (λ (l : List ℕ). take count (drop place l)) same) ∙ sym (take-add place count file)

pub goes_on : (before : List Told) (name piece : List ℕ) (old now : Option Files) (place count : ℕ) (follower new : Follower) → IsWithin before name old place follower → Stays old now → count ≤ length piece
    → IsPiece now name place count piece → ((before : List Told) (bytes : List ℕ) → Follows before bytes follower → Follows before (bytes ++ take count piece) new) → IsWithin before name old (place + count) new
goes_on before name piece old now place count follower new so_far stays few is takes = record {
  bytes = so_far.bytes ++ take count piece;
  follows = takes before so_far.bytes so_far.follows;
  place_is = omega (arith, so_far.place_is, few, length-append so_far.bytes (take count piece), length-take count piece);
  first = first_more old name so_far.bytes piece place count so_far.first
      (earlier old now (λ files. (file : List ℕ) × (map.get files name ≡ Some file) × AreReadAt file place count piece) stays is);
}

-- all was read
end_there : (told : Option Files) (name bytes rest piece : List ℕ) (place count : ℕ) → IfSome told (λ files. (file : List ℕ) → map.get files name ≡ Some file → bytes ≡ take place file) → count ≡ 0
    → IsPiece told name place count piece → IfSome told (λ files. IsThere files name (AreEnough bytes rest))
end_there None name bytes rest piece place count first none is = tt
end_there (Some files) name bytes rest piece place count first none is =
    let all : bytes ≡ is.0 = first is.0 is.1 ∙ take_all place is.0 (is.2.2 none) in
    (is.0, is.1, ([], sym (append-nil bytes ∙ all), inl refl))

pub ends_there : (before : List Told) (name piece : List ℕ) (old now : Option Files) (place count : ℕ) (follower : Follower) → IsWithin before name old place follower → Stays old now → count ≡ 0
    → IsPiece now name place count piece → HasRead before name old place follower
ends_there before name piece old now place count follower so_far stays none is = record {
  bytes = so_far.bytes;
  follows = so_far.follows;
  count_is = so_far.place_is;
  file_is = end_there old name so_far.bytes follower.held.items piece place count so_far.first none
      (earlier old now (λ files. (file : List ℕ) × (map.get files name ≡ Some file) × AreReadAt file place count piece) stays is);
}

-- enough was read: what is left is bad, whatever comes
bad_there : (told : Option Files) (name bytes rest piece : List ℕ) (place more count : ℕ) → IfSome told (λ files. (file : List ℕ) → map.get files name ≡ Some file → bytes ≡ take place file) → EndsBad rest
    → IsPiece told name more count piece → IfSome told (λ files. IsThere files name (AreEnough bytes rest))
bad_there None name bytes rest piece place more count first bad is = tt
bad_there (Some files) name bytes rest piece place more count first bad is =
    let split : is.0 ≡ bytes ++ drop place is.0 = sym (take-append-drop place is.0) ∙ ap (λ (l : List ℕ). l ++ drop place is.0) (sym (first is.0 is.1)) in
    (is.0, is.1, (drop place is.0, split, inr bad))

pub bad_ends : (before : List Told) (name piece : List ℕ) (old now : Option Files) (place more count : ℕ) (follower : Follower) → IsWithin before name old place follower → Stays old now → EndsBad follower.held.items
    → IsPiece now name more count piece → HasRead before name old place follower
bad_ends before name piece old now place more count follower so_far stays bad is = record {
  bytes = so_far.bytes;
  follows = so_far.follows;
  count_is = so_far.place_is;
  file_is = bad_there old name so_far.bytes follower.held.items piece place more count so_far.first bad
      (earlier old now (λ files. (file : List ℕ) × (map.get files name ≡ Some file) × AreReadAt file more count piece) stays is);
}
