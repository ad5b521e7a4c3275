use Rattle.std.proofs.Common.{rules}
use Rattle.dl_cells.proofs.LossKeeping.{joining}
use Rattle.dl_cells.proofs.loss_keeper.LossKeeper.join.Goals as goal

pub join_seat-requires : goal.join_seat-requires
join_seat-requires c = (search rules, search rules, search rules, search rules, joining _ _ _ _ _ (search rules))
