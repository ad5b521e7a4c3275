-- What a call that stores frames leaves, whether it stored all of them or stopped at a piece.
use Rattle.std.specs.Prelude.{◌≡◌, ℕ, ◌+◌, ◌≤◌, ◌⊎◌, ◌↔◌, true, false, List, [], ◌∷◌, ◌++◌, length, take, drop, Option, Some, None, IfSome, Result, Ok, Err}
use Rattle.std.specs.List.{concat}
use Rattle.dl_bytes.specs.declared.outcome.TraceEnd.{TraceEnd}
use Rattle.dl_bytes.specs.declared.outcome.TraceEnd.TheVariants.{Failed, Spent, NoMemory}
use Rattle.dl_outside.specs.Folder.{Files, with_more}
use Rattle.dl_outside.specs.Outside.{HasRisen}
use Rattle.dl_outside.specs.Told.{FolderTold}
use Rattle.dl_model.specs.TraceFiles.{StoredFile, is_spent, trace_name}
use Rattle.dl_trace.specs.State.{Trace, IsAfter, IsSameTrace, counted, files_after, number_after}
use Rattle.dl_trace.specs.InFolder.{HasFiles, HasFilesBut}
use Rattle.dl_trace.specs.Pieces.{pieces_of, frames_in}

-- the folder's count of faults rose where the trace failed, and stands with every other answer
abbrev pub HasCause : {T : Type 0} → ℕ → ℕ → Result T TraceEnd → Type 0
HasCause before now (Ok done) = now ≡ before
HasCause before now (Err Failed) = HasRisen before now
HasCause before now (Err Spent) = now ≡ before
HasCause before now (Err NoMemory) = now ≡ before

-- ---- all frames were stored

-- All frames of the call are stored: whatever the trace was after, it is now after that and these frames, and so is the
-- folder. None of them needed a number that no file can have.
pub record IsStored (frames : List (List ℕ)) (old new : Trace) (told told_now : Option Files) : Type 0 where
  pub same : IsSameTrace old new
  pub goes_on : new.state.end ≡ None
  pub unstored : new.unstored ≡ old.unstored
  pub state : (stood : List StoredFile) (done : List (List ℕ)) → IsAfter stood done old → IsAfter stood (done ++ frames) new
  pub unspent : (stood : List StoredFile) (done : List (List ℕ)) → IsAfter stood done old → is_spent old.file_size stood (done ++ frames) ≡ false
  pub folder : (stood : List StoredFile) (done : List (List ℕ)) → IsAfter stood done old
      → IfSome told (λ folder. HasFiles old.directory folder (files_after old stood done)
      → (now : Files) × (told_now ≡ Some now) × HasFiles old.directory now (files_after old stood (done ++ frames)))

-- so many frames are stored, and they were the first piece
pub record StoresNext (count : ℕ) (frames : List (List ℕ)) (old new : Trace) (told told_now : Option Files) : Type 0 where
  pub cut : pieces_of old frames ≡ take count frames ∷ pieces_of new (drop count frames)
  pub stored : IsStored (take count frames) old new told told_now

-- ---- a piece could not be stored

-- the piece was not appended: its file, which has this number, may hold a front of it
abbrev pub IsCutShort : List ℕ → List StoredFile → ℕ → List ℕ → Files → Type 0
IsCutShort directory before number piece now =
    (folder : Files) × HasFiles directory folder before
    × ((now ≡ folder) ⊎ ((n : ℕ) × (n ≤ length piece) × (now ≡ with_more folder (trace_name directory number) (take n piece))))

-- The piece was appended to a new file, and a file could not be removed: of those that were to go, the ones before it
-- are gone, and the ones behind it stand. Of that one itself nothing is known.
pub record IsUnremoved (directory : List ℕ) (before after : List StoredFile) (now : Files) : Type 0 where
  pub gone : List StoredFile
  pub unknown : StoredFile
  pub waiting : List StoredFile
  pub stays : List StoredFile
  pub newest : StoredFile
  pub before_is : before ≡ gone ++ unknown ∷ (waiting ++ stays)
  pub after_is : after ≡ stays ++ newest ∷ []
  pub holds : HasFilesBut directory unknown.number now (waiting ++ (stays ++ newest ∷ []))

-- what a folder holds where a piece could not be stored: before it these files stood, and after it those were to stand
abbrev pub Leaves : TraceEnd → List ℕ → List StoredFile → List StoredFile → ℕ → List ℕ → Files → Type 0
Leaves Spent directory before after number piece now = HasFiles directory now before
Leaves Failed directory before after number piece now = IsCutShort directory before number piece now ⊎ IsUnremoved directory before after now
Leaves NoMemory directory before after number piece now = IsCutShort directory before number piece now ⊎ IsUnremoved directory before after now

-- The call stopped at a piece: the pieces before it are stored, and the trace tells of them alone. It has ended, and counts the
-- frames of that piece and those behind it. It ended as spent exactly where the piece needed a number that no file can have.
pub record Stops (end : TraceEnd) (frames : List (List ℕ)) (old new : Trace) (told told_now : Option Files) : Type 0 where
  pub same : IsSameTrace old new
  pub ended : new.state.end ≡ Some end
  pub stored : List (List (List ℕ))
  pub piece : List (List ℕ)
  pub later : List (List (List ℕ))
  pub cut : pieces_of old frames ≡ stored ++ piece ∷ later
  pub unstored : new.unstored ≡ counted (old.unstored + length (piece ++ frames_in later))
  pub state : (stood : List StoredFile) (done : List (List ℕ)) → IsAfter stood done old → IsAfter stood (done ++ frames_in stored) new
  pub spent : (stood : List StoredFile) (done : List (List ℕ)) → IsAfter stood done old → (end ≡ Spent) ↔ (is_spent old.file_size stood (done ++ frames_in stored ++ piece) ≡ true)
  pub folder : (stood : List StoredFile) (done : List (List ℕ)) → IsAfter stood done old
      → IfSome told (λ folder. HasFiles old.directory folder (files_after old stood done)
      → (now : Files) × (told_now ≡ Some now)
      × Leaves end old.directory (files_after old stood (done ++ frames_in stored)) (files_after old stood (done ++ frames_in stored ++ piece))
      (number_after old stood (done ++ frames_in stored ++ piece)) (concat piece) now)

-- ---- by the answer

-- what a call leaves that was to store these frames: all are stored, or it stopped at a piece, for the cause that it tells
abbrev pub StoresOrStops : List (List ℕ) → Result (Unit {0}) TraceEnd → Trace → Trace → FolderTold → FolderTold → Type 0
StoresOrStops frames (Ok done) old new folder folder_now =
    IsStored frames old new folder.files folder_now.files × (folder_now.faults ≡ folder.faults)
StoresOrStops frames (Err end) old new folder folder_now =
    Stops end frames old new folder.files folder_now.files × HasCause {T = Unit {0}} folder.faults folder_now.faults (Err end)
