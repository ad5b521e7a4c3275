-- What a run makes of the folder: its trace files, the stored configuration, and its failures.
use Rattle.std.specs.Prelude.{◌≡◌, ◌≢◌, ℕ, ◌<◌, List, [], length, Option, Some, None, IfSome, IsOkAnd}
use Rattle.std.specs.FinMap as map
use Rattle.dl_bytes.specs.declared.outcome.TraceEnd.{TraceEnd}
use Rattle.dl_bytes.specs.declared.outcome.TraceState.{TraceState}
use Rattle.dl_core.specs.Follows.{HoldsFiles, IsTraceAfter, Run, stored_by}
use Rattle.dl_core.specs.Later.{IsFolderLater}
use Rattle.dl_events.specs.declared.event.Event.{Event}
use Rattle.dl_model.specs.Setting.{Setting}
use Rattle.dl_outside.specs.Folder.{Files}
use Rattle.dl_outside.specs.Told.{FolderTold}
use Rattle.dl_startup.specs.Setup.{conf_in, stored_name}
use Rattle.dl_storage.specs.declared.filter.Filter.{Filter}
use Rattle.dl_trace.specs.InFolder.{HasFiles, IsTraceName}
use Rattle.dl_trace.specs.State.{Trace}
use Rattle.dl_words.specs.Run as words
use Rattle.dl_live.specs.Filters.{AreElsewhere, IsOfNoFilter}

-- ---- the trace

-- nothing is told of a trace
abbrev pub no_trace : TraceState
no_trace = record { files = []; end = None }

-- The trace of a run that keeps one: it tells of the files of all frames that the events store, or of some first ones where it ended before.
-- While it goes on, the folder holds just these files, where no filter has its own in their directory.
pub record IsTraced (filters : List Filter) (run : Run) (events : List Event) (told : TraceState) (old new : FolderTold) : Type 0 where
  pub kept : Trace
  pub state : kept.state ≡ told
  pub after : IsTraceAfter run (stored_by run events) kept
  pub stood : IfSome old.files (λ files. HasFiles run.setting.directory files run.stood)
  pub holds : told.end ≡ None → AreElsewhere filters run.setting.directory → IfSome old.files (λ files. HoldsFiles run (stored_by run events) new.files)

-- ---- the folder

-- Its count of faults rose by as many as the folder failed, at least. Where no Store and no Reset was done and none failed, the stored configuration
-- stands.
abbrev pub IsFolderAfter : Setting → List Event → Option TraceEnd → FolderTold → FolderTold → Type 0
IsFolderAfter setting events ended old new = IsFolderLater setting [] events None ended old new

-- the name of a trace file: of the configuration that the files say, where that names a directory
abbrev pub IsTraceFile : words.Run → Files → List ℕ → Type 0
IsTraceFile asked all name = IsOkAnd (conf_in asked.conf all) (λ values. (0 < length values.directory) × IsTraceName values.directory name)

-- every file is as it was, but the trace files, those of the filters, and the stored configuration
abbrev pub ChangesOwnFiles : words.Run → Option Files → Option Files → Type 0
ChangesOwnFiles asked old new =
    IfSome old (λ was. (now : Files) × (new ≡ Some now)
    × ((name : List ℕ) → name ≢ stored_name → ¬ (IsTraceFile asked was name) → IsOfNoFilter was name → map.get now name ≡ map.get was name))
