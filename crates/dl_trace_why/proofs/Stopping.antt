-- Why files can't be read.
use Rattle.std.proofs.Common.{◌≡◌, Bool, false, List, [], ◌∷◌, ◌++◌, Option, Some, None, ℕ, length, refl, sym, ap, subst, ◌∙◌, append_assoc, append-nil, arith}
use Rattle.std.specs.Prelude.{◌==◌, IfSome, Result, Ok, Err}
use Rattle.std.specs.FinMap as map
use Rattle.dl_outside.specs.Folder.{Files}
use Rattle.dl_outside.specs.Outside.{HasRisen, Stays}
use Rattle.dl_outside.specs.Told.{FolderTold}
use Rattle.dl_sessions.specs.Follows.{IsAt}
use Rattle.dl_sessions.specs.declared.session.Told.{Told}
use Rattle.dl_trace_files.specs.Left.{IsLeft}
use Rattle.dl_trace_files.proofs.Looking.{left_on, left_same}
use Rattle.dl_trace_why.specs.Reading.{AreBadAt, AreRead, IsBadAt, IsMissing, IsThere, Tell}
use Rattle.dl_trace_why.specs.Reads.{AddsFile, Reads, ReadsNames, Stops, StopsAt}
use Rattle.dl_trace_why.specs.declared.reading.Reading.{Reading}
use Rattle.dl_trace_why.specs.declared.status.Status.{Status}
use Rattle.dl_trace_why.specs.declared.status.Status.TheVariants as end
use Rattle.dl_trace_why.proofs.Telling.{AreSoFar, first_is, none_yet, one_more, some_read}

-- a file that can't be read stops the files
pub stops : (is_alone : Bool) (old mid new : FolderTold) (all names behind : List (List ℕ)) (name : List ℕ) (reading : Reading) (status : Status) → AreSoFar is_alone old.files names reading → all ≡ names ++ name ∷ behind
    → IsLeft old mid → mid.faults ≡ old.faults → StopsAt name mid new status → Stops (λ files. all) old new status
stops is_alone old mid new all names behind name reading end.Ok so_far is left well at = absurd at
stops is_alone old mid new all names behind name reading (end.BadMessage file place) so_far is left well at =
    subst (λ (n : List ℕ). IfSome old.files (λ files. IsBadAt files all n place)) (sym at.0)
    (first_is is_alone old.files mid.files all names behind name reading (λ files. IsThere files name (λ bytes. AreBadAt bytes place)) so_far is left.files at.1)
stops is_alone old mid new all names behind name reading (end.NoFile file) so_far is left well at =
    subst (λ (n : List ℕ). IfSome old.files (λ files. IsMissing files all n)) (sym at.0)
    (first_is is_alone old.files mid.files all names behind name reading (λ files. map.get files name ≡ None) so_far is left.files at.1)
stops is_alone old mid new all names behind name reading end.NoTrace so_far is left well at = absurd at
stops is_alone old mid new all names behind name reading end.WriteFault so_far is left well at = absurd at
stops is_alone old mid new all names behind name reading end.ReadFault so_far is left well at = subst (λ (n : ℕ). HasRisen n new.faults) well at
stops is_alone old mid new all names behind name reading end.PictureFault so_far is left well at = absurd at
stops is_alone old mid new all names behind name reading end.OutOfMemory so_far is left well at = tt

-- ---- whether there is one

some_told : (told : Option Files) (names : List (List ℕ)) (stream : List Told) (ends : List ℕ) → (length names == 0) ≡ false → IfSome told (λ files. Tell (length names == 1) files names stream ends)
    → IfSome told (λ files. AreRead files names stream ends)
some_told None names stream ends some tell = tt
some_told (Some files) names stream ends some tell = some_read files names stream ends some tell

some_by : (names : List (List ℕ)) (old new : FolderTold) (result : Result Reading Status) → (length names == 0) ≡ false → ReadsNames (length names == 1) names old new result → Reads (λ files. names) old new result
some_by names old new (Ok reading) some reads = (reads.0, (reads.1.0, reads.1.1, some_told old.files names reads.1.0 reading.ends.items some reads.1.2))
some_by names old new (Err status) some reads = reads

pub some_reads : (is_alone : Bool) (names : List (List ℕ)) (old new : FolderTold) (result : Result Reading Status) → (length names == 0) ≡ false → is_alone ≡ (length names == 1) → ReadsNames is_alone names old new result
    → Reads (λ files. names) old new result
some_reads is_alone names old new result some alone reads = some_by names old new result some (subst (λ (b : Bool). ReadsNames b names old new result) alone reads)

-- ---- names that the folder tells

under : (old mid : Option Files) (names : List (List ℕ)) (of : Files → List (List ℕ)) (P : Files → List (List ℕ) → Type 0) → IfSome old (λ files. names ≡ of files) → Stays old mid → IfSome mid (λ files. P files names)
    → IfSome old (λ files. P files (of files))
under None mid names of P is stays so = tt
under (Some files) mid names of P is stays so = subst (P files) is (subst (λ (m : Option Files). IfSome m (λ files. P files names)) stays so)

pub reads_on : (old mid new : FolderTold) (names : List (List ℕ)) (of : Files → List (List ℕ)) (result : Result Reading Status) → IfSome old.files (λ files. names ≡ of files) → IsLeft old mid → mid.faults ≡ old.faults
    → Reads (λ files. names) mid new result → Reads of old new result
reads_on old mid new names of (Ok reading) is left well reads = (
  reads.0 ∙ well,
  (reads.1.0, reads.1.1, under old.files mid.files names of (λ files all. AreRead files all reads.1.0 reading.ends.items) is left.files reads.1.2),
)
reads_on old mid new names of (Err end.Ok) is left well reads = absurd reads
reads_on old mid new names of (Err (end.BadMessage file place)) is left well reads = under old.files mid.files names of (λ files all. IsBadAt files all file place) is left.files reads
reads_on old mid new names of (Err (end.NoFile file)) is left well reads = under old.files mid.files names of (λ files all. IsMissing files all file) is left.files reads
reads_on old mid new names of (Err end.NoTrace) is left well reads = under old.files mid.files names of (λ files all. all ≡ []) is left.files reads
reads_on old mid new names of (Err end.WriteFault) is left well reads = absurd reads
reads_on old mid new names of (Err end.ReadFault) is left well reads = subst (λ (n : ℕ). HasRisen n new.faults) well reads
reads_on old mid new names of (Err end.PictureFault) is left well reads = absurd reads
reads_on old mid new names of (Err end.OutOfMemory) is left well reads = tt

-- ---- a loop over names

-- the files so far, and those that are left
pub record IsReading (is_alone : Bool) (old now : FolderTold) (all yielded left : List (List ℕ)) (count : ℕ) (reading : Reading) : Type 0 where
  pub names_are : yielded ++ left ≡ all
  pub count_is : count ≡ length left
  pub told : AreSoFar is_alone old.files yielded reading
  pub left_as : IsLeft old now
  pub well : now.faults ≡ old.faults

nothing_left : {X : Type 0} (l : List X) → length l ≡ 0 → l ≡ []
nothing_left [] none = refl
nothing_left (x ∷ xs) none = absurd (omega arith)

pub sets_out : (is_alone : Bool) (told : FolderTold) (all : List (List ℕ)) (count : ℕ) (reading : Reading) → count ≡ length all → IsAt [] reading.follower → reading.ends.items ≡ [] → IsReading is_alone told told all [] all count reading
sets_out is_alone told all count reading counted s e = record { names_are = refl; count_is = counted; told = none_yet is_alone told.files reading s e; left_as = left_same told; well = refl }

pub goes_on : (is_alone : Bool) (old mid new : FolderTold) (all yielded left left_now : List (List ℕ)) (name : List ℕ) (count count_now : ℕ) (reading reading_now : Reading) → (was : IsReading is_alone old mid all yielded left count reading)
    → left ≡ name ∷ left_now → count_now ≡ length left_now → AddsFile is_alone name was.told.0 mid new reading reading_now (Ok tt) → IsLeft mid new → IsReading is_alone old new all (yielded ++ name ∷ []) left_now count_now reading_now
goes_on is_alone old mid new all yielded left left_now name count count_now reading reading_now was next counted adds left_as = record {
  names_are = append_assoc yielded (name ∷ []) left_now ∙ ap (λ (l : List (List ℕ)). yielded ++ l) (sym next) ∙ was.names_are;
  count_is = counted;
  told = one_more is_alone old.files mid.files yielded name reading reading_now was.told was.left_as.files adds.1;
  left_as = left_on old mid new was.left_as left_as;
  well = adds.0 ∙ was.well;
}

pub stops_there : (is_alone : Bool) (old mid new : FolderTold) (all yielded left left_now : List (List ℕ)) (name : List ℕ) (count : ℕ) (reading : Reading) (status : Status) → IsReading is_alone old mid all yielded left count reading
    → left ≡ name ∷ left_now → StopsAt name mid new status → Stops (λ files. all) old new status
stops_there is_alone old mid new all yielded left left_now name count reading status was next at =
    stops is_alone old mid new all yielded left_now name reading status was.told (sym was.names_are ∙ ap (λ (l : List (List ℕ)). yielded ++ l) next) was.left_as was.well at

pub arrives : (is_alone : Bool) (old now : FolderTold) (all yielded left : List (List ℕ)) (count : ℕ) (reading : Reading) → IsReading is_alone old now all yielded left count reading → count ≡ 0
    → ReadsNames is_alone all old now (Ok reading)
arrives is_alone old now all yielded left count reading was none =
    let empty = nothing_left left (sym was.count_is ∙ none) in
    let is : yielded ≡ all = sym (append-nil yielded) ∙ ap (λ (l : List (List ℕ)). yielded ++ l) (sym empty) ∙ was.names_are in
    (was.well, subst (λ (l : List (List ℕ)). AreSoFar is_alone old.files l reading) is was.told)
