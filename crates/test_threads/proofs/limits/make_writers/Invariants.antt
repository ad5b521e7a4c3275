use Rattle.dl_desk.specs.Made.{IsAppOf}
use Rattle.test_threads.proofs.limits.make_writers.Given as goal

abbrev pub invariant-loop-count : goal.invariant-loop-count
invariant-loop-count l = IsAppOf l.desk l.app
