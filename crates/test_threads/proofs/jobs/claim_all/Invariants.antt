use Rattle.test_threads.proofs.Later.{IsSame}
use Rattle.test_threads.proofs.jobs.claim_all.Given as goal

abbrev pub invariant-loop-count : goal.invariant-loop-count
invariant-loop-count g l = IsSame l.initial.book l.book
