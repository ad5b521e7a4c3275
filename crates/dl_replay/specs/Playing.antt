-- What playing leaves, before its report is made: for inner functions.
use Rattle.std.specs.Prelude.{◌≡◌, ◌≢◌, ℕ, ◌≤◌, ◌<◌, List, length, Option, Some, IfSome, Result, Ok, Err}
use Rattle.std.specs.List.{All}
use Rattle.std.specs.FinMap as map
use Rattle.dl_script_model.specs.Marks.{journal}
use Rattle.dl_outside.specs.Folder.{Files}
use Rattle.dl_outside.specs.Outside.{HasRisen}
use Rattle.dl_startup.specs.Setup.{stored_name}
use Rattle.dl_report.specs.Counts.{HasStreams}
use Rattle.dl_trace.specs.InFolder.{IsTraceName}
use Rattle.dl_world.specs.declared.played.Played.{Played}
use Rattle.dl_replay.specs.declared.begin.Start.{Start}
use Rattle.dl_startup.specs.declared.status.Status.{Status}
use Rattle.dl_startup.specs.declared.status.Status.TheVariants.{FolderFault, OutOfMemory}
use Rattle.dl_replay.specs.declared.task.Task.{Task}
use Rattle.dl_replay.specs.Finish.{frames_for, report_for}
use Rattle.dl_replay.specs.Run.{Run, marks, text_of}
use Rattle.dl_outside.specs.Told.{FolderTold}
use Rattle.dl_startup.specs.Unchanged.{IsUnchanged}

-- what was played is this run
pub record IsOf {start : Start} {old new : FolderTold} (run : Run start old new) (played : Played) : Type 0 where
  pub text : (task : Task) → report_for task played ≡ text_of task run
  pub events : played.events.events ≡ journal (marks start run.answers)
  pub trace : played.ends.trace ≡ run.trace
  pub links : (task : Task) → All (HasStreams (frames_for task played)) played.ends.links

-- What was played is a run; or the trace could not be made, and nothing changed, or there was no memory.
abbrev pub Plays : Start → FolderTold → FolderTold → Result Played Status → Type 0
Plays start old new (Ok played) = ((run : Run start old new) × IsOf run played) × (old.faults ≤ new.faults)
Plays start old new (Err FolderFault) = HasRisen old.faults new.faults × IsUnchanged old new
Plays start old new (Err OutOfMemory) = Unit {0}
Plays start old new (Err _) = ⊥

-- every file is as it was, but the trace files, where some are kept, and the stored configuration
abbrev pub OwnFiles : Start → Option Files → Option Files → Type 0
OwnFiles start old new =
    IfSome old (λ files. (now : Files) × (new ≡ Some now)
    × ((name : List ℕ) → name ≢ stored_name → ¬ ((0 < length start.conf.directory) × IsTraceName start.conf.directory name) → map.get now name ≡ map.get files name))
