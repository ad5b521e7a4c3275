-- A file that is searched message by message.
use Rattle.std.proofs.Common.{◌≡◌, ℕ, ◌+◌, ◌<◌, ◌≤◌, List, [], ◌∷◌, ◌++◌, length, take, drop, Option, Some, None, refl, sym, ap, subst, ◌∙◌, append_assoc, append-nil, inl, inr, arith}
use Rattle.std.specs.Prelude.{◌⊎◌, ◌-◌, IfSome, OnOk, Result, Ok, Err, is_err, false}
use Rattle.std.specs.FinMap as map
use Rattle.std.proofs.lemmas.List.{length-drop, take-append-le}
use Rattle.dl_outside.specs.Folder.{Files}
use Rattle.dl_outside.specs.Outside.{HasRisen, Stays}
use Rattle.dl_outside.specs.Told.{FolderTold}
use Rattle.dl_sessions.specs.Gaps.{counted}
use Rattle.dl_sessions.specs.Stream.{end_of, first_place, rest_behind, told_at}
use Rattle.dl_sessions.specs.declared.stream.End.TheVariants as end
use Rattle.dl_sessions.specs.declared.stream.Place.{Place}
use Rattle.dl_sessions.proofs.Readings.{behind-append, first-append, place_is, rest-append, shorter, told-append}
use Rattle.dl_trace_files.specs.Left.{IsLeft}
use Rattle.dl_trace_files.proofs.Looking.{left_on, left_same}
use Rattle.dl_find.specs.Finds.{Met, met}
use Rattle.dl_find.specs.Meets.{AreBadAt, FileMeets, IsSearch, Meets, met_at, next_offset}
use Rattle.dl_find.specs.Rests.{HasFront, HasGiven, IsFront, IsKnown, IsNew, IsThere, WhereThere, left_of, rest_of}
use Rattle.dl_find.specs.Searches.{HasSearched, StopsAt}
use Rattle.dl_find_words.specs.declared.question.Question.{Question}
use Rattle.dl_find.specs.declared.reader.Front.{Front}
use Rattle.dl_find.specs.declared.reader.Front.TheVariants as front
use Rattle.dl_find.specs.declared.reader.Reader.{Reader}
use Rattle.dl_find.specs.declared.search.Search.{Search}
use Rattle.dl_find.specs.declared.search.Stop.TheVariants as stop

-- the messages so far are those at the file's front, and what is left stands behind them
abbrev pub AreMet : ℕ → List Met → Reader → List ℕ → Type 0
AreMet file mets reader bytes = (more : List Met) (rest : List ℕ) → Meets file reader.offset (left_of bytes reader) more rest → Meets file 0 bytes (mets ++ more) rest

-- the messages so far of a file
pub record IsSearching (q : Question) (before : List Met) (name : List ℕ) (file : ℕ) (told : Option Files) (reader : Reader) (search : Search) : Type 0 where
  pub mets : List Met
  pub is : IsSearch q (before ++ mets) search
  pub met_so : WhereThere told name (AreMet file mets reader)

-- the same, whatever was asked for and found before; and the folder is left as it was
pub record AreSearching (name : List ℕ) (file : ℕ) (told now : FolderTold) (old search : Search) (reader : Reader) : Type 0 where
  pub so_far : (q : Question) (before : List Met) → IsSearch q before old → IsSearching q before name file told.files reader search
  pub known : IsKnown name told.files reader
  pub left : IsLeft told now
  pub well : now.faults ≡ told.faults

none_met : (told : Option Files) (name : List ℕ) (file : ℕ) (reader : Reader) → IsNew reader → WhereThere told name (AreMet file [] reader)
none_met None name file reader new = tt
none_met (Some files) name file reader new = λ bytes at more rest meets.
    subst (λ (n : ℕ). Meets file n bytes more rest) new.offset_is
    (subst (λ (l : List ℕ). Meets file reader.offset l more rest) ((λ i. new.rest_is i ++ drop (new.read_is i) bytes)) meets)

pub sets_out : (name : List ℕ) (file : ℕ) (told : FolderTold) (search : Search) (reader : Reader) → IsNew reader → AreSearching name file told told search search reader
sets_out name file told search reader new = record {
  so_far = λ q before is. record {
    mets = [];
    is = subst (λ (l : List Met). IsSearch q l search) (sym (append-nil before)) is;
    met_so = none_met told.files name file reader new;
  };
  known = inl new.rest_is;
  left = left_same told;
  well = refl;
}

-- ---- one message more

earlier : (old now : Option Files) (P : Files → Type 0) → Stays old now → IfSome now P → IfSome old P
earlier None now P stays so = tt
earlier (Some files) now P stays so = subst (λ (m : Option Files). IfSome m P) stays so

message-append : (a b : List ℕ) (place : Place) → first_place a ≡ Some place → take place.len (drop place.before (a ++ b)) ≡ take place.len (drop place.before a)
message-append a b place is = ap (take place.len) (behind-append a b place is) ∙ take-append-le place.len (drop place.before a) b (place_is a place is).within

met_more : (file : ℕ) (mets : List Met) (old mid new : Reader) (place : Place) (bytes : List ℕ) → AreMet file mets old bytes → left_of bytes mid ≡ left_of bytes old → mid.offset ≡ old.offset → first_place (rest_of mid) ≡ Some place
    → HasGiven mid place new → AreMet file (mets ++ met_at file mid.offset place (rest_of mid) ∷ []) new bytes
met_more file mets old mid new place bytes so_far same at is given = λ more rest meets.
    let here = rest_of mid in
    let there = drop mid.read bytes in
    let m = met_at file mid.offset place here in
    let left : left_of bytes new ≡ rest_behind place (left_of bytes mid) = (λ i. given.rest_is i ++ drop (given.read_is i) bytes) ∙ sym (rest-append here there place is) in
    let next : new.offset ≡ next_offset mid.offset place = given.offset_is in
    let same_met : met_at file mid.offset place (left_of bytes mid) ≡ m =
    λ i. met (record { file = file; offset = counted (mid.offset + place.before) }) (told-append here there place is i) (message-append here there place is i) in
    let step : Meets file mid.offset (left_of bytes mid) (m ∷ more) rest = (
      place,
      first-append here there place is,
      same_met,
      subst (λ (n : ℕ). Meets file n (rest_behind place (left_of bytes mid)) more rest) next (subst (λ (l : List ℕ). Meets file new.offset l more rest) left meets),
    ) in
    subst (λ (l : List Met). Meets file 0 bytes l rest) (sym (append_assoc mets (m ∷ []) more))
    (so_far (m ∷ more) rest (subst (λ (n : ℕ). Meets file n (left_of bytes old) (m ∷ more) rest) at (subst (λ (l : List ℕ). Meets file mid.offset l (m ∷ more) rest) same step)))

met_there : (told : Option Files) (name : List ℕ) (file : ℕ) (mets : List Met) (old mid new : Reader) (place : Place) → WhereThere told name (AreMet file mets old) → WhereThere told name (λ bytes. left_of bytes mid ≡ left_of bytes old)
    → mid.offset ≡ old.offset → first_place (rest_of mid) ≡ Some place → HasGiven mid place new → WhereThere told name (AreMet file (mets ++ met_at file mid.offset place (rest_of mid) ∷ []) new)
met_there None name file mets old mid new place so_far same at is given = tt
met_there (Some files) name file mets old mid new place so_far same at is given = λ bytes there. met_more file mets old mid new place bytes (so_far bytes there) (same bytes there) at is given

some_there : (told : Option Files) (name : List ℕ) (P : List ℕ → Type 0) → IsThere told name P → IsThere told name (λ file. Unit {0})
some_there None name P is = tt
some_there (Some files) name P is = (is.0, is.1, tt)

front_before : (told now : Option Files) (name : List ℕ) (old new : Reader) (at : Front) → Stays told now → HasFront name now old new at → HasFront name told old new at
front_before None now name old new at stays has = record { same = tt; offset_is = has.offset_is; holds = has.holds; known = λ known. tt }
front_before (Some files) now name old new at stays has = subst (λ (o : Option Files). HasFront name o old new at) stays has

pub goes_on : (name : List ℕ) (file : ℕ) (told mid now : FolderTold) (first search search_now : Search) (old reader new : Reader) (place : Place) → AreSearching name file told mid first search old → HasFront name mid.files old reader (front.Message place)
    → IsLeft mid now → now.faults ≡ mid.faults → ((q : Question) (mets : List Met) → IsSearch q mets search → IsSearch q (mets ++ met_at file reader.offset place (rest_of reader) ∷ []) search_now) → HasGiven reader place new
    → AreSearching name file told now first search_now new
goes_on name file told mid now first search search_now old reader new place was has_now left well adds given =
    let has = front_before told.files mid.files name old reader (front.Message place) was.left.files has_now in
    let m = met_at file reader.offset place (rest_of reader) in
    record {
      so_far = λ q before is.
          let one = was.so_far q before is in
          record {
            mets = one.mets ++ m ∷ [];
            is = subst (λ (l : List Met). IsSearch q l search_now) (append_assoc before one.mets (m ∷ [])) (adds q (before ++ one.mets) one.is);
            met_so = met_there told.files name file one.mets old reader new place one.met_so has.same has.offset_is has.holds given;
          };
      known = inr (some_there told.files name (λ bytes. IsFront (left_of bytes reader) (front.Message place)) (has.known was.known));
      left = left_on told mid now was.left left;
      well = well ∙ was.well;
    }

-- each message moves the offset on
pub farther : (old reader new : Reader) (place : Place) → reader.offset ≡ old.offset → first_place (rest_of reader) ≡ Some place → HasGiven reader place new → old.offset < 4611686018427387904
    → 4611686018427387904 - new.offset < 4611686018427387904 - old.offset
farther old reader new place at is given within =
    let less = shorter (rest_of reader) place is in
    omega (arith, less, within, at, given.offset_is, length-drop place.len (drop place.before (rest_of reader)), length-drop place.before (rest_of reader))

-- what a call says that was not refused
pub ok_says : {A E P : Type 0} (r : Result A E) → is_err r ≡ false → OnOk r P → P
ok_says (Ok x) good so = so
ok_says (Err e) good so = absurd cc

-- ---- the end

ended : (told : Option Files) (name : List ℕ) (file : ℕ) (mets : List Met) (old reader : Reader) → WhereThere told name (AreMet file mets old) → WhereThere told name (λ bytes. left_of bytes reader ≡ left_of bytes old)
    → IsThere told name (λ bytes. IsFront (left_of bytes reader) front.End) → IfSome told (λ files. FileMeets files file name mets)
ended None name file mets old reader so_far same at = tt
ended (Some files) name file mets old reader so_far same at =
    let bytes = at.0 in
    let left = left_of bytes old in
    let is = same bytes at.1 in
    record {
      bytes = bytes;
      there = at.1;
      rest = left;
      meets = subst (λ (l : List Met). Meets file 0 bytes l left) (append-nil mets) (so_far bytes at.1 [] left (refl, ap first_place (sym is) ∙ at.2.0));
      well = λ bad. at.2.1 (ap end_of is ∙ bad);
    }

pub arrives : (name : List ℕ) (file : ℕ) (told mid now : FolderTold) (first search : Search) (old reader : Reader) → AreSearching name file told mid first search old → HasFront name mid.files old reader front.End → now.faults ≡ mid.faults
    → (q : Question) (before : List Met) → IsSearch q before first → HasSearched q before name file told now search
arrives name file told mid now first search old reader was has_now well q before is =
    let has = front_before told.files mid.files name old reader front.End was.left.files has_now in
    let so_far = was.so_far q before is in
    record { mets = so_far.mets; is = so_far.is; meets = ended told.files name file so_far.mets old reader so_far.met_so has.same (has.known was.known); well = well ∙ was.well }

bad_there : (told : Option Files) (name : List ℕ) (file : ℕ) (mets : List Met) (old reader : Reader) → WhereThere told name (AreMet file mets old) → WhereThere told name (λ bytes. left_of bytes reader ≡ left_of bytes old) → reader.offset ≡ old.offset
    → IsThere told name (λ bytes. IsFront (left_of bytes reader) front.Bad) → IfSome told (λ files. (bytes : List ℕ) × (map.get files name ≡ Some bytes) × AreBadAt file bytes reader.offset)
bad_there None name file mets old reader so_far same offset at = tt
bad_there (Some files) name file mets old reader so_far same offset at =
    let bytes = at.0 in
    let is = same bytes at.1 in (
      bytes,
      at.1,
      record {
        mets = mets;
        rest = left_of bytes reader;
        meets = λ last meets.
            subst (λ (l : List Met). Meets file 0 bytes l last) (append-nil mets)
            (so_far bytes at.1 [] last (subst (λ (n : ℕ). Meets file n (left_of bytes old) [] last) offset (subst (λ (l : List ℕ). Meets file reader.offset l [] last) is meets)));
        none = at.2.0;
        bad = at.2.1;
      },
    )

pub stops_bad : (name : List ℕ) (file : ℕ) (told mid now : FolderTold) (first search : Search) (old reader : Reader) → AreSearching name file told mid first search old → HasFront name mid.files old reader front.Bad
    → (q : Question) (before : List Met) → IsSearch q before first → StopsAt name file told now (stop.Bad reader.offset)
stops_bad name file told mid now first search old reader was has_now q before is =
    let has = front_before told.files mid.files name old reader front.Bad was.left.files has_now in
    let so_far = was.so_far q before is in
    bad_there told.files name file so_far.mets old reader so_far.met_so has.same has.offset_is (has.known was.known)

pub stops_missing : (name : List ℕ) (file : ℕ) (told mid now : FolderTold) (first search : Search) (old : Reader) → AreSearching name file told mid first search old → IfSome mid.files (λ files. map.get files name ≡ None) → StopsAt name file told now stop.Missing
stops_missing name file told mid now first search old was none = earlier told.files mid.files (λ files. map.get files name ≡ None) was.left.files none
