use Rattle.std.proofs.Common.{◌≡◌}
use Rattle.test_threads.proofs.injections.fill.Given as goal

abbrev pub invariant-loop-service : goal.invariant-loop-service
invariant-loop-service g l = l.push.queue ≡ l.initial.push.queue
