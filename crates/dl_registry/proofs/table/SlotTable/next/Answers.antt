use Rattle.std.proofs.Common.{None, Some}
use Rattle.dl_registry.proofs.OwedSlots.{next_waiting-is}
use Rattle.dl_registry.proofs.table.SlotTable.next.Goals as goal

pub returns-in-None-clause-change : goal.returns-in-None-clause-change
returns-in-None-clause-change c = next_waiting-is c.args.self.now None c.in-None.ensures

pub returns-in-Some-clause-change : goal.returns-in-Some-clause-change
returns-in-Some-clause-change c = next_waiting-is c.args.self.now (Some c.in-Some.change) c.in-Some.ensures
