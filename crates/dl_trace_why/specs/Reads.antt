-- What the reading of files leaves. (Of the code alone, but for `Reads`.)
use Rattle.std.specs.Prelude.{◌≡◌, ℕ, ◌-◌, ◌⊎◌, Bool, List, [], ◌++◌, length, Option, Some, None, IfSome, Result, Ok, Err}
use Rattle.std.specs.FinMap as map
use Rattle.std.specs.declared.alloc.AllocError.{AllocError}
use Rattle.dl_outside.specs.Folder.{Files}
use Rattle.dl_outside.specs.Outside.{HasRisen}
use Rattle.dl_outside.specs.Told.{FolderTold}
use Rattle.dl_outside.specs.declared.folder.FolderFault.{FolderFault}
use Rattle.dl_sessions.specs.Follows.{EndsBad, Follows, IsAt}
use Rattle.dl_sessions.specs.Stream.{end_of}
use Rattle.dl_sessions.specs.declared.follower.Follower.{Follower}
use Rattle.dl_sessions.specs.declared.session.Told.{Told}
use Rattle.dl_sessions.specs.declared.stream.End.TheVariants.{Bad}
use Rattle.dl_trace_why.specs.Reading.{AreBadAt, AreRead, BytesTell, IsBadAt, IsMissing, IsThere, Tell, called}
use Rattle.dl_trace_why.specs.declared.reading.Reading.{Reading}
use Rattle.dl_trace_why.specs.declared.status.Status.{Status}
use Rattle.dl_trace_why.specs.declared.status.Status.TheVariants as end

-- ---- one file

-- these are all bytes of a file, or so many that what stands behind the last message is bad whatever comes
abbrev pub AreEnough : (bytes rest file : List ℕ) → Type 0
AreEnough bytes rest file = (behind : List ℕ) × (file ≡ bytes ++ behind) × ((behind ≡ []) ⊎ EndsBad rest)

-- so many bytes of the file of this name were read, and enough of them
pub record HasRead (before : List Told) (name : List ℕ) (told : Option Files) (count : ℕ) (follower : Follower) : Type 0 where
  pub bytes : List ℕ
  pub follows : Follows before bytes follower
  pub count_is : count ≡ length bytes
  pub file_is : IfSome told (λ files. IsThere files name (AreEnough bytes follower.held.items))

abbrev pub ReadsPieces : List Told → List ℕ → Option Files → Follower → Result (Option ℕ) FolderFault → Type 0
ReadsPieces before name told follower (Ok (Some count)) = HasRead before name told count follower
ReadsPieces before name told follower (Ok None) = IfSome told (λ files. map.get files name ≡ None)
ReadsPieces before name told follower (Err fault) = Unit {0}

-- what these bytes tell was added, and the file that is called so was let go
pub record HasAdded (label : List ℕ) (before : List Told) (bytes rest : List ℕ) (old new : Reading) : Type 0 where
  pub stream : List Told
  pub said : List ℕ
  pub tells : BytesTell label bytes stream said
  pub rest_is : tells.rest ≡ rest
  pub at : IsAt (before ++ stream) new.follower
  pub ends_are : new.ends.items ≡ old.ends.items ++ said

-- the same; or their rest is bad, and begins at this place
abbrev pub EndsFile : List ℕ → List Told → List ℕ → ℕ → Reading → Reading → Result (Option ℕ) AllocError → Type 0
EndsFile label before bytes count old new (Ok None) = HasAdded label before bytes old.follower.held.items old new
EndsFile label before bytes count old new (Ok (Some place)) = (end_of old.follower.held.items ≡ Bad) × (place ≡ count - length old.follower.held.items)
EndsFile label before bytes count old new (Err fault) = Unit {0}

-- why a file can't be read
abbrev pub StopsAt : List ℕ → FolderTold → FolderTold → Status → Type 0
StopsAt name old new (end.BadMessage file place) = (file ≡ name) × IfSome old.files (λ files. IsThere files name (λ bytes. AreBadAt bytes place))
StopsAt name old new (end.NoFile file) = (file ≡ name) × IfSome old.files (λ files. map.get files name ≡ None)
StopsAt name old new end.ReadFault = HasRisen old.faults new.faults
StopsAt name old new end.OutOfMemory = Unit {0}
StopsAt name old new _ = ⊥

-- what a file tells was added behind what others told
pub record HasAddedFile (is_alone : Bool) (name : List ℕ) (before : List Told) (told : Option Files) (old new : Reading) : Type 0 where
  pub bytes : List ℕ
  pub stream : List Told
  pub said : List ℕ
  pub tells : BytesTell (called is_alone name) bytes stream said
  pub at : IsAt (before ++ stream) new.follower
  pub ends_are : new.ends.items ≡ old.ends.items ++ said
  pub file_is : IfSome told (λ files. map.get files name ≡ Some bytes)

-- the same; or why it can't be read
abbrev pub AddsFile : Bool → List ℕ → List Told → FolderTold → FolderTold → Reading → Reading → Result (Unit {0}) Status → Type 0
AddsFile is_alone name before old new reading reading_now (Ok done) = (new.faults ≡ old.faults) × HasAddedFile is_alone name before old.files reading reading_now
AddsFile is_alone name before old new reading reading_now (Err status) = StopsAt name old new status

-- ---- files

-- Why the files of these names can't be read: there is none, or the first that can't be read.
abbrev pub Stops : (Files → List (List ℕ)) → FolderTold → FolderTold → Status → Type 0
Stops names old new (end.BadMessage file place) = IfSome old.files (λ files. IsBadAt files (names files) file place)
Stops names old new (end.NoFile file) = IfSome old.files (λ files. IsMissing files (names files) file)
Stops names old new end.NoTrace = IfSome old.files (λ files. names files ≡ [])
Stops names old new end.ReadFault = HasRisen old.faults new.faults
Stops names old new end.OutOfMemory = Unit {0}
Stops names old new _ = ⊥

-- messages were counted, and this is so of them and of what is said of their files' ends, where the folder tells its files
abbrev pub Counts : Option Files → Reading → (Files → List Told → List ℕ → Type 0) → Type 0
Counts told reading P = (stream : List Told) × IsAt stream reading.follower × IfSome told (λ files. P files stream reading.ends.items)

-- The files of these names were read; or why not.
abbrev pub Reads : (Files → List (List ℕ)) → FolderTold → FolderTold → Result Reading Status → Type 0
Reads names old new (Ok reading) = (new.faults ≡ old.faults) × Counts old.files reading (λ files. AreRead files (names files))
Reads names old new (Err status) = Stops names old new status

-- the same, where there may be none
abbrev pub ReadsNames : Bool → List (List ℕ) → FolderTold → FolderTold → Result Reading Status → Type 0
ReadsNames is_alone names old new (Ok reading) = (new.faults ≡ old.faults) × Counts old.files reading (λ files. Tell is_alone files names)
ReadsNames is_alone names old new (Err status) = Stops (λ files. names) old new status
