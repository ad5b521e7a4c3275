use Rattle.std.proofs.Common.{Option, subst}
use Rattle.std.specs.Prelude.{IfSome}
use Rattle.dl_trace.specs.State.{Trace}
use Rattle.dl_core.specs.Follows.{IsTraceAfter, stored_by}
use Rattle.dl_core.proofs.Tracing.{trace_tells}
use Rattle.dl_core.proofs.laws.what_a_trace_tells.Goals as goal

pub returns : goal.returns
returns c = λ run events taken core kept is there.
    trace_tells run (stored_by run events) kept (subst (λ (o : Option Trace). IfSome o (IsTraceAfter run (stored_by run events))) there is.trace)
