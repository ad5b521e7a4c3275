-- Which trace files a folder holds, by the frames that a trace stored: while it goes on, and since it ended.
use Rattle.std.specs.Prelude.{◌≡◌, ℕ, ◌+◌, ◌<◌, List, [], ◌++◌, length, Option, Some, None, IfSome, IsSomeAnd}
use Rattle.std.specs.FinMap as map
use Rattle.std.specs.List.{concat}
use Rattle.dl_bytes.specs.declared.outcome.TraceEnd.{TraceEnd}
use Rattle.dl_bytes.specs.declared.outcome.TraceEnd.TheVariants.{Failed, Spent, NoMemory}
use Rattle.dl_events.specs.declared.event.Event.{Event}
use Rattle.dl_model.specs.Setting.{Setting}
use Rattle.dl_model.specs.TraceFiles.{StoredFile, greatest, segments, trace_files, trace_name}
use Rattle.dl_outside.specs.Folder.{Files}
use Rattle.dl_outside.specs.Told.{FolderTold}
use Rattle.dl_trace.specs.State.{IsAfter, Trace}
use Rattle.dl_trace.specs.InFolder.{HasFiles}
use Rattle.dl_trace.specs.Storing as storing
use Rattle.dl_core.specs.Follows.{Run, stored_by}
use Rattle.dl_core.specs.State.{Core}

-- the trace files after these stored frames, where the old ones stood before
abbrev pub files_with : Setting → List StoredFile → List (List ℕ) → List StoredFile
files_with setting stood frames = trace_files setting.file_size setting.max_size stood frames

-- the number of the newest file then
abbrev pub number_with : Setting → List StoredFile → List (List ℕ) → ℕ
number_with setting stood frames = greatest stood + length (segments setting.file_size frames)

-- of each trace file there is the same in both: its bytes, or no such file
abbrev pub SameTraceFiles : List ℕ → Files → Files → Type 0
SameTraceFiles directory old new = (number : ℕ) → map.get new (trace_name directory number) ≡ map.get old (trace_name directory number)

-- A trace that stored some frames ended at the next ones, for this cause: a front of them, the piece that was to go into one file, could not be stored. The
-- folder was left then as the trace says of such an end, and since then no trace file has changed, come or gone.
pub record IsCutAt (end : TraceEnd) (setting : Setting) (stood : List StoredFile) (stored later : List (List ℕ)) (now : Files) : Type 0 where
  pub piece : List (List ℕ)
  pub some : 0 < length piece
  pub behind : List (List ℕ)
  pub next : later ≡ piece ++ behind
  pub at_end : Files
  pub left : storing.Leaves end setting.directory (files_with setting stood stored) (files_with setting stood (stored ++ piece)) (number_with setting stood (stored ++ piece)) (concat piece) at_end
  pub since : SameTraceFiles setting.directory at_end now

-- What a folder holds where a trace has stored these frames, and not the later ones: just their files, while it goes on and where it ended for want of a
-- name. Else a piece of the later ones was begun, and what that left stands.
abbrev pub Stands : Option TraceEnd → Setting → List StoredFile → List (List ℕ) → List (List ℕ) → Files → Type 0
Stands None setting stood stored later now = HasFiles setting.directory now (files_with setting stood stored)
Stands (Some Spent) setting stood stored later now = HasFiles setting.directory now (files_with setting stood stored)
Stands (Some Failed) setting stood stored later now = IsCutAt Failed setting stood stored later now
Stands (Some NoMemory) setting stood stored later now = IsCutAt NoMemory setting stood stored later now

-- A trace has stored these first ones of the frames that were to be stored, all of them while it goes on; and where the folder held at first just the files that
-- stood before, it holds what stands of them.
pub record IsKept (run : Run) (first : Option Files) (frames : List (List ℕ)) (kept : Trace) (told : Option Files) : Type 0 where
  pub directory : kept.directory ≡ run.setting.directory
  pub file_size : kept.file_size ≡ run.setting.file_size
  pub max_size : kept.max_size ≡ run.setting.max_size
  pub stored : List (List ℕ)
  pub later : List (List ℕ)
  pub all : frames ≡ stored ++ later
  pub files : IsAfter run.stood stored kept
  pub whole : kept.state.end ≡ None → later ≡ []
  pub stands : IsSomeAnd first (λ folder. HasFiles run.setting.directory folder run.stood) → IsSomeAnd told (Stands kept.state.end run.setting run.stood stored later)

-- the same of the frames of a journal, where a core keeps a trace
abbrev pub KeepsTrace : Run → Option Files → List Event → Core → FolderTold → Type 0
KeepsTrace run first events core folder = IfSome core.trace (λ kept. IsKept run first (stored_by run events) kept folder.files)
