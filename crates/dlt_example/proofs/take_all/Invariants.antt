use Rattle.std.proofs.Common.{◌≡◌, length}
use Rattle.dlt_example.proofs.take_all.Given as goal

abbrev pub invariant-loop-call : goal.invariant-loop-call
invariant-loop-call g l = length l.desk.apps ≡ length l.initial.desk.apps
