use Rattle.dl_writer.specs.State.{IsWhole}
use Rattle.dl_account.proofs.InOrder.{all_of_ordered}
use Rattle.dl_account.proofs.laws.whole_in_order.Goals as goal

pub returns : goal.returns
returns c books ordered order all = all_of_ordered IsWhole books ordered order all
