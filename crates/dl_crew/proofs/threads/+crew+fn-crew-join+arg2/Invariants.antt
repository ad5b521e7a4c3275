use Rattle.std.proofs.Common.{length}
use Rattle.dl_crew.proofs.threads.+crew+fn-crew-join+arg2.Given as goal

abbrev pub decreases-crew : goal.decreases-crew
decreases-crew g l = length l.books

abbrev pub decreases-join+arg2 : goal.decreases-join+arg2
decreases-join+arg2 g l = length l.books
