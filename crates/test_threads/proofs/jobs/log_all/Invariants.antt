use Rattle.test_threads.proofs.Later.{IsSame}
use Rattle.test_threads.proofs.jobs.log_all.Given as goal

abbrev pub invariant-loop-at : goal.invariant-loop-at
invariant-loop-at g l = IsSame l.initial.book l.book
