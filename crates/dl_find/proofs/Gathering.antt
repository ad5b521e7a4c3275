-- Files that are searched one behind the other.
use Rattle.std.proofs.Common.{◌≡◌, ℕ, zero, suc, ◌+◌, ◌<◌, ◌≤◌, List, [], ◌∷◌, ◌++◌, length, take, drop, get_or, Option, Some, None, refl, sym, ap, subst, ◌∙◌, append_assoc, append-nil, arith}
use Rattle.std.specs.Prelude.{IfSome, Result, Ok, Err}
use Rattle.std.specs.FinMap as map
use Rattle.std.proofs.lemmas.List.{length-take, take-append-drop}
use Rattle.dl_lemmas.proofs.Lists.{item_here}
use Rattle.dl_outside.specs.Folder.{Files}
use Rattle.dl_outside.specs.Outside.{HasRisen, Stays}
use Rattle.dl_outside.specs.Told.{FolderTold, SinkTold}
use Rattle.dl_outside.specs.Written.{WroteAll, WroteFront}
use Rattle.dl_trace_files.specs.Left.{IsLeft}
use Rattle.dl_trace_files.proofs.Looking.{left_on, left_same}
use Rattle.dl_trace_why.specs.Account.{sides}
use Rattle.dl_trace_why.specs.declared.status.Status.{Status}
use Rattle.dl_trace_why.specs.declared.status.Status.TheVariants as end
use Rattle.dl_find.specs.Answer.{answer_text}
use Rattle.dl_find.specs.Finds.{Met}
use Rattle.dl_find.specs.Found.{Answers, Ends, Searches, Stops}
use Rattle.dl_find.specs.Meets.{AllMeet, AreBadAt, FileMeets, IsFirst, IsSearch}
use Rattle.dl_find.specs.Searches.{HasSearched, StopsAt, StopsFirst}
use Rattle.dl_find_words.specs.declared.question.Question.{Question}
use Rattle.dl_find.specs.declared.search.Search.{Search}
use Rattle.dl_find.specs.declared.search.Stop.{Stop}
use Rattle.dl_find.specs.declared.search.Stop.TheVariants as stop

-- the files so far
pub record AreSearched (q : Question) (names : List (List ℕ)) (told now : FolderTold) (file : ℕ) (search : Search) : Type 0 where
  pub mets : List Met
  pub is : IsSearch q mets search
  pub meet : IfSome told.files (λ files. AllMeet files 0 (take file names) mets)
  pub left : IsLeft told now
  pub well : now.faults ≡ told.faults
  pub within : file ≤ length names

none_yet : (told : Option Files) → IfSome told (λ files. ◌≡◌ {A = List Met} [] [])
none_yet None = tt
none_yet (Some files) = refl

pub sets_out : (q : Question) (names : List (List ℕ)) (told : FolderTold) (search : Search) → IsSearch q [] search → AreSearched q names told told 0 search
sets_out q names told search is = record { mets = []; is = is; meet = none_yet told.files; left = left_same told; well = refl; within = omega arith }

-- ---- one file more

meet_more : (files : Files) (k : ℕ) (names : List (List ℕ)) (name : List ℕ) (mets first : List Met) → AllMeet files k names mets → FileMeets files (k + length names) name first → AllMeet files k (names ++ name ∷ []) (mets ++ first)
meet_more files k [] name mets first meet one = (
  first,
  [],
  subst (λ (n : ℕ). FileMeets files n name first) (omega arith) one,
  ap (λ (l : List Met). l ++ first) meet ∙ sym (append-nil first),
  refl,
)
meet_more files k (n ∷ names) name mets first meet one = (
  meet.0,
  meet.1 ++ first,
  meet.2,
  ap (λ (l : List Met). l ++ first) meet.3 ∙ append_assoc meet.0 meet.1 first,
  meet_more files (k + 1) names name meet.1 first meet.4 (subst (λ (n : ℕ). FileMeets files n name first) (omega arith) one),
)

earlier : (old now : Option Files) (P : Files → Type 0) → Stays old now → IfSome now P → IfSome old P
earlier None now P stays so = tt
earlier (Some files) now P stays so = subst (λ (m : Option Files). IfSome m P) stays so

all_meet : (told mid : Option Files) (names : List (List ℕ)) (name : List ℕ) (file : ℕ) (mets first : List Met) → file < length names → take (file + 1) names ≡ take file names ++ name ∷ [] → Stays told mid
    → IfSome told (λ files. AllMeet files 0 (take file names) mets) → IfSome mid (λ files. FileMeets files file name first) → IfSome told (λ files. AllMeet files 0 (take (file + 1) names) (mets ++ first))
all_meet None mid names name file mets first within next stays meet one = tt
all_meet (Some files) mid names name file mets first within next stays meet one =
    let there = subst (λ (m : Option Files). IfSome m (λ files. FileMeets files file name first)) stays one in
    let size : file ≡ 0 + length (take file names) = omega (arith, length-take file names, within) in
    subst (λ (l : List (List ℕ)). AllMeet files 0 l (mets ++ first)) (sym next) (meet_more files 0 (take file names) name mets first meet (subst (λ (n : ℕ). FileMeets files n name first) size there))

pub goes_on : (q : Question) (names : List (List ℕ)) (told mid now : FolderTold) (file : ℕ) (name : List ℕ) (search new : Search) → file < length names → name ≡ get_or names file name → (was : AreSearched q names told mid file search)
    → HasSearched q was.mets name file mid now new → IsLeft mid now → AreSearched q names told now (file + 1) new
goes_on q names told mid now file name search new within is was found left = record {
  mets = was.mets ++ found.mets;
  is = found.is;
  meet = all_meet told.files mid.files names name file was.mets found.mets within (item_here names file name within is).0 was.left.files was.meet found.meets;
  left = left_on told mid now was.left left;
  well = found.well ∙ was.well;
  within = omega (arith, within);
}

-- ---- a file that stops it

first_is : (told mid : Option Files) (names : List (List ℕ)) (name : List ℕ) (file : ℕ) (mets : List Met) (P : Files → ℕ → Type 0) → file < length names → name ≡ get_or names file name → Stays told mid
    → IfSome told (λ files. AllMeet files 0 (take file names) mets) → IfSome mid (λ files. P files file) → IfSome told (λ files. IsFirst files names name (P files))
first_is None mid names name file mets P within is stays meet so = tt
first_is (Some files) mid names name file mets P within is stays meet so = record {
  before = take file names;
  behind = drop (file + 1) names;
  names_are = sym (take-append-drop file names) ∙ ap (λ (l : List (List ℕ)). take file names ++ l) (item_here names file name within is).1;
  mets = mets;
  meet = meet;
  so = subst (P files) (size file names within) (subst (λ (m : Option Files). IfSome m (λ files. P files file)) stays so);
}
  where
    size : (file : ℕ) (names : List (List ℕ)) → file < length names → file ≡ length (take file names)
    size file names within = omega (arith, length-take file names, within)

pub stops : (q : Question) (names : List (List ℕ)) (told mid now : FolderTold) (file : ℕ) (name : List ℕ) (found : Search) (why : Stop) (status : Status) → file < length names → name ≡ get_or names file name → AreSearched q names told mid file found
    → StopsAt name file mid now why → StopsFirst why name status → Stops names told now status
stops q names told mid now file name found (stop.Bad offset) (end.BadMessage f place) within is was at says =
    subst (λ (n : List ℕ). IfSome told.files (λ files. IsFirst files names n (λ (k : ℕ). (bytes : List ℕ) × (map.get files n ≡ Some bytes) × AreBadAt k bytes place))) (sym says.0)
    (first_is told.files mid.files names name file was.mets (λ files (k : ℕ). (bytes : List ℕ) × (map.get files name ≡ Some bytes) × AreBadAt k bytes place) within is was.left.files was.meet
    (subst (λ (n : ℕ). IfSome mid.files (λ files. (bytes : List ℕ) × (map.get files name ≡ Some bytes) × AreBadAt file bytes n)) (sym says.1) at))
stops q names told mid now file name found stop.Missing (end.NoFile f) within is was at says =
    subst (λ (n : List ℕ). IfSome told.files (λ files. IsFirst files names n (λ (k : ℕ). map.get files n ≡ None))) (sym says)
    (first_is told.files mid.files names name file was.mets (λ files (k : ℕ). map.get files name ≡ None) within is was.left.files was.meet at)
stops q names told mid now file name found (stop.Bad offset) end.Ok within is was at says = absurd says
stops q names told mid now file name found (stop.Bad offset) (end.NoFile f) within is was at says = absurd says
stops q names told mid now file name found (stop.Bad offset) end.NoTrace within is was at says = absurd says
stops q names told mid now file name found (stop.Bad offset) end.WriteFault within is was at says = absurd says
stops q names told mid now file name found (stop.Bad offset) end.ReadFault within is was at says = absurd says
stops q names told mid now file name found (stop.Bad offset) end.PictureFault within is was at says = absurd says
stops q names told mid now file name found (stop.Bad offset) end.OutOfMemory within is was at says = tt
stops q names told mid now file name found stop.Missing end.Ok within is was at says = absurd says
stops q names told mid now file name found stop.Missing (end.BadMessage f place) within is was at says = absurd says
stops q names told mid now file name found stop.Missing end.NoTrace within is was at says = absurd says
stops q names told mid now file name found stop.Missing end.WriteFault within is was at says = absurd says
stops q names told mid now file name found stop.Missing end.ReadFault within is was at says = absurd says
stops q names told mid now file name found stop.Missing end.PictureFault within is was at says = absurd says
stops q names told mid now file name found stop.Missing end.OutOfMemory within is was at says = tt
stops q names told mid now file name found stop.Failed end.Ok within is was at says = absurd says
stops q names told mid now file name found stop.Failed (end.BadMessage f place) within is was at says = absurd says
stops q names told mid now file name found stop.Failed (end.NoFile f) within is was at says = absurd says
stops q names told mid now file name found stop.Failed end.NoTrace within is was at says = absurd says
stops q names told mid now file name found stop.Failed end.WriteFault within is was at says = absurd says
stops q names told mid now file name found stop.Failed end.ReadFault within is was at says = subst (λ (n : ℕ). HasRisen n now.faults) was.well at
stops q names told mid now file name found stop.Failed end.PictureFault within is was at says = absurd says
stops q names told mid now file name found stop.Failed end.OutOfMemory within is was at says = tt
stops q names told mid now file name found stop.OutOfMemory end.Ok within is was at says = absurd says
stops q names told mid now file name found stop.OutOfMemory (end.BadMessage f place) within is was at says = absurd says
stops q names told mid now file name found stop.OutOfMemory (end.NoFile f) within is was at says = absurd says
stops q names told mid now file name found stop.OutOfMemory end.NoTrace within is was at says = absurd says
stops q names told mid now file name found stop.OutOfMemory end.WriteFault within is was at says = absurd says
stops q names told mid now file name found stop.OutOfMemory end.ReadFault within is was at says = absurd says
stops q names told mid now file name found stop.OutOfMemory end.PictureFault within is was at says = absurd says
stops q names told mid now file name found stop.OutOfMemory end.OutOfMemory within is was at says = tt

-- ---- the whole

pub arrives : (q : Question) (names : List (List ℕ)) (told now : FolderTold) (file : ℕ) (search : Search) → AreSearched q names told now file search → length names ≤ file → Searches q names told now (Ok search)
arrives q names told now file search was enough =
    (was.well, (was.mets, was.is, all_of told.files (take_whole file names enough) was.meet))
  where
    take_whole : (file : ℕ) (names : List (List ℕ)) → length names ≤ file → take file names ≡ names
    take_whole zero [] enough = refl
    take_whole zero (n ∷ names) enough = absurd (omega (arith, enough))
    take_whole (suc file) [] enough = refl
    take_whole (suc file) (n ∷ names) enough = ap (λ (l : List (List ℕ)). n ∷ l) (take_whole file names (omega (arith, enough)))

    all_of : (told : Option Files) → take file names ≡ names → IfSome told (λ files. AllMeet files 0 (take file names) was.mets) → IfSome told (λ files. AllMeet files 0 names was.mets)
    all_of None whole meet = tt
    all_of (Some files) whole meet = subst (λ (l : List (List ℕ)). AllMeet files 0 l was.mets) whole meet

both_so : (told : Option Files) (names : List (List ℕ)) (P : Files → Type 0) → IfSome told P → IfSome told (λ files. (names ≡ names) × P files)
both_so None names P so = tt
both_so (Some files) names P so = (refl, so)

pub answered : (q : Question) (names : List (List ℕ)) (search : Search) (old mid : FolderTold) (out out_now : SinkTold) (status : Status) → (searches : Searches q names old mid (Ok search)) → IsLeft old mid → Answers q names searches.1.0 out out_now status
    → Ends (λ files. names) q (sides old out) (sides mid out_now) status
answered q names search old mid out out_now end.Ok searches left answers = ((names, searches.1.0, both_so old.files names (λ files. AllMeet files 0 names searches.1.0) searches.1.2, answers), left)
answered q names search old mid out out_now end.WriteFault searches left answers = ((names, searches.1.0, both_so old.files names (λ files. AllMeet files 0 names searches.1.0) searches.1.2, answers), left)
answered q names search old mid out out_now end.OutOfMemory searches left answers = (answers, left)
answered q names search old mid out out_now (end.BadMessage f p) searches left answers = absurd answers
answered q names search old mid out out_now (end.NoFile f) searches left answers = absurd answers
answered q names search old mid out out_now end.NoTrace searches left answers = absurd answers
answered q names search old mid out out_now end.ReadFault searches left answers = absurd answers
answered q names search old mid out out_now end.PictureFault searches left answers = absurd answers

pub stopped : (q : Question) (names : List (List ℕ)) (old new : FolderTold) (out : SinkTold) (status : Status) → Stops names old new status → IsLeft old new → Ends (λ files. names) q (sides old out) (sides new out) status
stopped q names old new out end.Ok stops left = absurd stops
stopped q names old new out end.WriteFault stops left = absurd stops
stopped q names old new out end.NoTrace stops left = absurd stops
stopped q names old new out end.PictureFault stops left = absurd stops
stopped q names old new out (end.BadMessage f p) stops left = (stops, (refl, left))
stopped q names old new out (end.NoFile f) stops left = (stops, (refl, left))
stopped q names old new out end.ReadFault stops left = (stops, (refl, left))
stopped q names old new out end.OutOfMemory stops left = (refl, left)

-- the same of names that the folder tells
under : (old mid : Option Files) (names : List (List ℕ)) (of : Files → List (List ℕ)) (P : Files → List (List ℕ) → Type 0) → IfSome old (λ files. names ≡ of files) → Stays old mid → IfSome mid (λ files. P files names) → IfSome old (λ files. P files (of files))
under None mid names of P is stays so = tt
under (Some files) mid names of P is stays so = subst (P files) is (subst (λ (m : Option Files). IfSome m (λ files. P files names)) stays so)

named : (old mid : Option Files) (names all : List (List ℕ)) (of : Files → List (List ℕ)) (P : Files → Type 0) → IfSome old (λ files. names ≡ of files) → Stays old mid → IfSome mid (λ files. (all ≡ names) × P files) → IfSome old (λ files. (all ≡ of files) × P files)
named None mid names all of P is stays so = tt
named (Some files) mid names all of P is stays so =
    let there = subst (λ (m : Option Files). IfSome m (λ files. (all ≡ names) × P files)) stays so in
    (there.0 ∙ is, there.1)

pub ends_on : (q : Question) (old mid new : FolderTold) (names : List (List ℕ)) (of : Files → List (List ℕ)) (out out_now : SinkTold) (status : Status) → IfSome old.files (λ files. names ≡ of files) → IsLeft old mid → mid.faults ≡ old.faults
    → Ends (λ files. names) q (sides mid out) (sides new out_now) status → Ends of q (sides old out) (sides new out_now) status
ends_on q old mid new names of out out_now end.Ok is left well ends =
    ((ends.0.0, ends.0.1, named old.files mid.files names ends.0.0 of (λ files. AllMeet files 0 ends.0.0 ends.0.1) is left.files ends.0.2, ends.0.3), left_on old mid new left ends.1)
ends_on q old mid new names of out out_now end.WriteFault is left well ends =
    ((ends.0.0, ends.0.1, named old.files mid.files names ends.0.0 of (λ files. AllMeet files 0 ends.0.0 ends.0.1) is left.files ends.0.2, ends.0.3), left_on old mid new left ends.1)
ends_on q old mid new names of out out_now (end.BadMessage f p) is left well ends =
    (under old.files mid.files names of (λ files all. IsFirst files all f (λ (k : ℕ). (bytes : List ℕ) × (map.get files f ≡ Some bytes) × AreBadAt k bytes p)) is left.files ends.0, (ends.1.0, left_on old mid new left ends.1.1))
ends_on q old mid new names of out out_now (end.NoFile f) is left well ends =
    (under old.files mid.files names of (λ files all. IsFirst files all f (λ (k : ℕ). map.get files f ≡ None)) is left.files ends.0, (ends.1.0, left_on old mid new left ends.1.1))
ends_on q old mid new names of out out_now end.NoTrace is left well ends = (under old.files mid.files names of (λ files all. all ≡ []) is left.files ends.0, (ends.1.0, left_on old mid new left ends.1.1))
ends_on q old mid new names of out out_now end.ReadFault is left well ends = (subst (λ (n : ℕ). HasRisen n new.faults) well ends.0, (ends.1.0, left_on old mid new left ends.1.1))
ends_on q old mid new names of out out_now end.PictureFault is left well ends = absurd ends
ends_on q old mid new names of out out_now end.OutOfMemory is left well ends = (ends.0, left_on old mid new left ends.1)
