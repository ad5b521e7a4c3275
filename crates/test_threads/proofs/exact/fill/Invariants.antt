use Rattle.std.proofs.Common.{◌≡◌, length}
use Rattle.test_threads.proofs.exact.fill.Given as goal

abbrev pub invariant-loop-service : goal.invariant-loop-service
invariant-loop-service g l = length l.desk.apps ≡ length l.initial.desk.apps
