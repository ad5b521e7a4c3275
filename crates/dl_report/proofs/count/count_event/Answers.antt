use Rattle.std.proofs.Common.{arith}
use Rattle.dl_report.proofs.Counting.{notes_loss}
use Rattle.dl_report.proofs.count.count_event.Goals as goal

pub returns-in-Lost-clause-table : goal.returns-in-Lost-clause-table
returns-in-Lost-clause-table c = notes_loss c.args.event.now c.in-Lost.app c.in-Lost.count c.in-Lost.moment _ _ (omega arith) c.in-Lost.is c.count_loss.ensures
