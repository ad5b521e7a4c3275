use Rattle.std.proofs.Common.{◌≡◌, false}
use Rattle.test_threads.proofs.levels.watch_together.Given as goal

abbrev pub invariant-loop-child : goal.invariant-loop-child
invariant-loop-child g l = l.fell ≡ false
