-- What an admission keeps of the trace and of the folder.
use Rattle.std.specs.Prelude.{◌≡◌, ◌≤◌, ◌⊎◌, Option, Some, option_map}
use Rattle.std.specs.Option.{option_and_then}
use Rattle.dl_bytes.specs.declared.outcome.TraceEnd.{TraceEnd}
use Rattle.dl_bytes.specs.declared.outcome.TraceEnd.TheVariants.{Failed}
use Rattle.dl_outside.specs.Outside.{HasRisen}
use Rattle.dl_outside.specs.Told.{FolderTold}
use Rattle.dl_trace.specs.State.{Trace}
use Rattle.dl_trace.specs.Written.{ChangesTraceAlone}

-- why nothing more is stored, where a trace is kept and that is so
abbrev pub end_of : Option Trace → Option TraceEnd
end_of trace = option_and_then (λ t. t.state.end) trace

-- A trace that is kept stays in its directory, and none comes. It failed meanwhile only where the folder's count of faults rose, and that
-- count never fell. No file changed but the trace files.
pub record KeepsTrace (old new : Option Trace) (folder folder_now : FolderTold) : Type 0 where
  pub directory : option_map (λ t. t.directory) new ≡ option_map (λ t. t.directory) old
  pub failed : end_of new ≡ Some Failed → (end_of old ≡ Some Failed) ⊎ HasRisen folder.faults folder_now.faults
  pub faults : folder.faults ≤ folder_now.faults
  pub others : ChangesTraceAlone old folder folder_now
