use Rattle.std.proofs.Common.{arith}
use Rattle.dl_crew.proofs.Played.{keeps_none}
use Rattle.dl_crew.proofs.worker.announce_waiting.Goals as goal

pub returns-else-waiting-gt0-clause-announced : goal.returns-else-waiting-gt0-clause-announced
returns-else-waiting-gt0-clause-announced g c = keeps_none c.args.book.now (omega (arith, c.waiting.ensures.value, c.if-waiting-gt0.false))
