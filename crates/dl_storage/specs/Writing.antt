-- What the code has of a filter while it writes. (Of the code alone: no promise rests on these words.)
use Rattle.std.specs.Prelude.{◌≡◌, ℕ, ◌+◌, ◌-◌, ◌^◌, ◌<◌, ◌≤◌, min, true, false, List, [], ◌∷◌, ◌++◌, length, Option, Some, None, IfSome, IsSomeAnd, Ok, Err}
use Rattle.std.specs.List.{AllByRecursion}
use Rattle.dl_bytes.specs.declared.outcome.TraceEnd.{TraceEnd}
use Rattle.dl_bytes.specs.declared.outcome.TraceEnd.TheVariants.{Failed, Spent, NoMemory}
use Rattle.dl_outside.specs.Folder.{Files}
use Rattle.dl_outside.specs.Outside.{Stays}
use Rattle.dl_outside.specs.Told.{FolderTold}
use Rattle.dl_model.specs.Backlog.{size_of}
use Rattle.dl_model.specs.TraceFiles.{StoredFile, is_spent, trace_files}
use Rattle.dl_trace.specs.InFolder.{ChangesTraceFiles, HasFiles}
use Rattle.dl_trace.specs.State.{IsAfter, IsSameTrace, Trace}
use Rattle.dl_trace.specs.Storing.{StoresOrStops}
use Rattle.dl_storage.specs.Ended.{EndHasCause}
use Rattle.dl_storage.specs.declared.writing.Writing.{Writing}

-- one count more, and so many bytes more
abbrev pub counted : ℕ → Writing → Trace → Writing
counted bytes old trace = record { trace = trace; frames = min (old.frames + 1) (2 ^ 64 - 1); bytes = min (old.bytes + bytes) (2 ^ 64 - 1) }

-- A frame was written, and counted; or it stopped the trace; or that had ended before.
abbrev pub WritesTill : Option TraceEnd → Option TraceEnd → List ℕ → Writing → Writing → FolderTold → FolderTold → Type 0
WritesTill (Some ended) end frame old new folder folder_now = (new ≡ old) × (folder_now ≡ folder)
WritesTill None None frame old new folder folder_now =
    StoresOrStops (frame ∷ []) (Ok tt) old.trace new.trace folder folder_now × (new ≡ counted (length frame) old new.trace)
WritesTill None (Some end) frame old new folder folder_now =
    StoresOrStops (frame ∷ []) (Err end) old.trace new.trace folder folder_now × (new.frames ≡ old.frames) × (new.bytes ≡ old.bytes)

abbrev pub Writes : List ℕ → Writing → Writing → FolderTold → FolderTold → Type 0
Writes frame old new folder folder_now = WritesTill old.trace.state.end new.trace.state.end frame old new folder folder_now

-- the same of a frame that may be there
abbrev pub WritesAny : Option (List ℕ) → Writing → Writing → FolderTold → FolderTold → Type 0
WritesAny None old new folder folder_now = (new ≡ old) × (folder_now ≡ folder)
WritesAny (Some frame) old new folder folder_now = Writes frame old new folder folder_now

-- it has a size that a stored frame of a log call can have
abbrev pub IsSized : List ℕ → Type 0
IsSized frame = (1 ≤ length frame) × (length frame ≤ 2000)

-- the trace goes on, or has no number left: it did not fail
abbrev pub HasNotFailed : Option TraceEnd → Type 0
HasNotFailed None = Unit {0}
HasNotFailed (Some Spent) = Unit {0}
HasNotFailed (Some Failed) = ⊥
HasNotFailed (Some NoMemory) = ⊥

-- where the folder told its files, it tells them, and those of the trace are those of these frames
abbrev pub Holds : Trace → List StoredFile → List (List ℕ) → Option Files → Option Files → Type 0
Holds first stood frames told told_now =
    IfSome told (λ before. IsSomeAnd told_now (λ files. HasFiles first.directory files (trace_files first.file_size first.max_size stood frames)))

-- What was written of these frames, since the trace was made as the first one: some are stored, from the first on, and
-- counted; they are all while the trace goes on.
pub record IsAfterFrames (first : Trace) (stood : List StoredFile) (frames : List (List ℕ)) (folder folder_now : FolderTold) (now : Writing) : Type 0 where
  pub same : IsSameTrace first now.trace
  pub most : first.file_size ≤ 100000000
  pub least : 2000 ≤ first.file_size
  pub stored : List (List ℕ)
  pub later : List (List ℕ)
  pub all : frames ≡ stored ++ later
  pub sized : AllByRecursion IsSized stored
  pub tells : IsAfter stood stored now.trace
  pub whole : now.trace.state.end ≡ None → later ≡ []
  pub frames_are : now.frames ≡ length stored
  pub bytes_are : now.bytes ≡ size_of stored
  pub unspent : 0 < length stored → is_spent first.file_size stood stored ≡ false
  pub spent : now.trace.state.end ≡ Some Spent → is_spent first.file_size stood frames ≡ true
  pub holds : HasNotFailed now.trace.state.end → Holds first stood stored folder.files folder_now.files
  pub cause : EndHasCause folder.faults folder_now.faults now.trace.state.end
  pub others : ChangesTraceFiles first.directory folder.files folder_now.files

-- the trace goes on, has begun no file, and found these files; its sizes are those that a filter can have
pub record Begins (first : Trace) (stood : List StoredFile) (folder : FolderTold) : Type 0 where
  pub goes_on : first.state.end ≡ None
  pub least : 2000 ≤ first.file_size
  pub most : first.file_size ≤ 100000000
  pub tells : IsAfter stood [] first
  pub found : IfSome folder.files (λ files. HasFiles first.directory files stood)

-- nothing changed since, and nothing failed
pub record IsUntouched (folder folder_now : FolderTold) : Type 0 where
  pub files : Stays folder.files folder_now.files
  pub faults : folder_now.faults ≡ folder.faults
