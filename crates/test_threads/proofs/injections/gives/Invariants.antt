use Rattle.std.proofs.Common.{◌≡◌}
use Rattle.test_threads.proofs.injections.gives.Given as goal

abbrev pub invariant-loop-service : goal.invariant-loop-service
invariant-loop-service g l = l.take.queue ≡ l.initial.take.queue
