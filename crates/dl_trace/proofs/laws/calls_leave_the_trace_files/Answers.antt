use Rattle.std.proofs.Common.{[], Some, refl}
use Rattle.dl_trace.proofs.Running.{ran}
use Rattle.dl_trace.proofs.laws.calls_leave_the_trace_files.Goals as goal

pub returns : goal.returns
returns c = λ calls trace last folder now stood after has run. ran calls trace last (Some folder) now [] stood after (folder, refl, has) run
