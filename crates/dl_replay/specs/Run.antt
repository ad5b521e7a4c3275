-- A run: what it begins with, what it comes to, and what it prints.
use Rattle.std.specs.Prelude.{◌≡◌, ◌≢◌, ℕ, ◌+◌, ◌-◌, ◌^◌, ◌<◌, ◌≤◌, ◌⊎◌, min, true, false, List, [], length, count_by, Option, Some, None, IfSome, IsSomeAnd}
use Rattle.std.specs.FinMap as map
use Rattle.dl_bytes.specs.declared.outcome.Done.{Done}
use Rattle.dl_bytes.specs.declared.outcome.TraceEnd.TheVariants as end
use Rattle.dl_bytes.specs.declared.outcome.TraceState.{TraceState}
use Rattle.dl_script_model.specs.Marks.{Mark, journal}
use Rattle.dl_script_model.specs.Replay.{files_of, report_of, trace_of}
use Rattle.dl_model.specs.Setting.{Setting}
use Rattle.dl_script_model.specs.Steps as steps
use Rattle.dl_model.specs.TraceFiles.{StoredFile, is_spent}
use Rattle.dl_core.specs.Settings.{setting_of}
use Rattle.dl_outside.specs.Folder.{Files}
use Rattle.dl_startup.specs.Failures.{unserved}
use Rattle.dl_startup.specs.Setup.{stored_name}
use Rattle.dl_trace.specs.InFolder.{HasFiles}
use Rattle.dl_world.specs.Played.{IsTraced, failures, frames_in, is_failed}
use Rattle.dl_world.specs.Stored.{HoldsStored}
use Rattle.dl_replay.specs.declared.begin.Start.{Start}
use Rattle.dl_replay.specs.declared.task.Task.{Task}
use Rattle.dl_replay.specs.Task.{shows_frames}
use Rattle.dl_outside.specs.Told.{FolderTold}

-- ---- what it begins with

-- what does not change in a run
abbrev pub setting : Start → Setting
setting start = setting_of start.conf start.stored 0

-- trace files are kept: a directory is named
abbrev pub IsTracing : Start → Type 0
IsTracing start = 0 < length start.conf.directory

-- ---- what it comes to

-- what its steps come to, where the folder answers so to the Stores and the Resets that ask it
abbrev pub marks : Start → List Done → List Mark
marks start answers = steps.run (setting start) answers start.steps

-- nothing is told of a trace
abbrev pub no_trace : TraceState
no_trace = record { files = []; end = None }

-- the stored configuration is what these marks made of the file that stood there, where the folder tells its files
abbrev pub HoldsItsStored : Start → Option Files → Option Files → List Mark → Type 0
HoldsItsStored start old new done = IfSome old (λ files. HoldsStored (setting start) (map.get files stored_name) (journal done) new)

-- A run: the trace files that stood before, what the folder answered to the Stores and the Resets, and what the trace tells at
-- the end.
pub record Run (start : Start) (old new : FolderTold) : Type 0 where
  pub stood : List StoredFile
  pub answers : List Done
  pub trace : TraceState
  -- those that stood are the folder's
  pub stood_are : IsTracing start → IfSome old.files (λ files. HasFiles start.conf.directory files stood)
  -- where no trace is kept, nothing is told of one
  pub untraced : start.conf.directory ≡ [] → trace ≡ no_trace
  -- else it tells of the trace files of all frames that the run stores, or of some first ones where it ended before; and the folder
  -- holds what stands of these frames
  pub traced : IsTracing start → IsTraced (setting start) stood (marks start answers) trace old.files new.files
  -- while it goes on, the folder holds the files of the rotation rule
  pub holds : IsTracing start → trace.end ≡ None
      → IfSome old.files (λ files. IsSomeAnd new.files (λ now. HasFiles start.conf.directory now (files_of (setting start) stood (marks start answers))))
  -- where it failed at no Store and no Reset, the stored configuration is what the run made of the one that stood there
  pub stored : count_by is_failed (marks start answers) ≡ 0 → HoldsItsStored start old.files new.files (marks start answers)
  -- the folder's count of faults rose at least as often as it failed
  pub failed : min (old.faults + failures (marks start answers) trace) (2 ^ 64 - 1) ≤ new.faults

-- the trace went on to the end of the run: it tells of the files of the rotation rule, and why it ended is not told
abbrev pub IsWhole : {start : Start} {old new : FolderTold} → Run start old new → Type 0
IsWhole {start = start} run = run.trace ≡ trace_of (setting start) run.stood (marks start run.answers)

-- it did not end for want of a name
abbrev pub HasNames : {start : Start} {old new : FolderTold} → Run start old new → Type 0
HasNames run = run.trace.end ≢ Some end.Spent

-- it ended since a frame needed a file whose number is above the greatest that a name can have
pub record IsSpent {start : Start} {old new : FolderTold} (run : Run start old new) : Type 0 where
  pub told : run.trace.end ≡ Some end.Spent
  pub spent : is_spent start.conf.file_size run.stood (frames_in (setting start) (marks start run.answers)) ≡ true

-- each Store and Reset had memory
abbrev pub IsServed : {start : Start} {old new : FolderTold} → Run start old new → Type 0
IsServed {start = start} run = unserved (journal (marks start run.answers)) ≡ false

-- The folder said Yes to each Store and each Reset, where its count of faults had room to rise: so the run is that of the folder and the
-- script alone.
abbrev pub IsDecided : {start : Start} {old new : FolderTold} → Run start old new → Type 0
IsDecided {start = start} {old = old} run = old.faults < 2 ^ 64 - 1 → marks start run.answers ≡ marks start []

-- So is what the stored configuration holds then.
abbrev pub HasDecided : {start : Start} {old new : FolderTold} → Run start old new → Type 0
HasDecided {start = start} {old = old} {new = new} run = old.faults < 2 ^ 64 - 1 → HoldsItsStored start old.files new.files (marks start [])

-- a Store, a Reset or the trace wanted memory
abbrev pub WantedMemory : {start : Start} {old new : FolderTold} → Run start old new → Type 0
WantedMemory {start = start} run = (unserved (journal (marks start run.answers)) ≡ true) ⊎ (run.trace.end ≡ Some end.NoMemory)

-- ---- what it prints

-- the report of the run, with the frames of the clients where a script was read
abbrev pub text_of : {start : Start} {old new : FolderTold} → Task → Run start old new → List ℕ
text_of {start = start} task run = report_of (setting start) (marks start run.answers) run.trace (shows_frames task)
