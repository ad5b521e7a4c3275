use Rattle.std.proofs.Common.{◌≡◌}
use Rattle.test_threads.proofs.rings.gives.Given as goal

abbrev pub invariant-loop-call : goal.invariant-loop-call
invariant-loop-call g l = l.take.ring ≡ l.initial.take.ring
