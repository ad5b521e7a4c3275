use Rattle.std.proofs.Common.{◌<◌}
use Rattle.test_threads.proofs.levels.set_often.Given as goal

abbrev pub invariant-loop-n : goal.invariant-loop-n
invariant-loop-n l = 0 < l.keeper.slots
