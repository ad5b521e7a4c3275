use Rattle.std.proofs.Common.{rules}
use Rattle.dl_cells.proofs.LossKeeping.{taking}
use Rattle.dl_cells.proofs.loss_keeper.LossKeeper.take.Goals as goal

pub swap-requires : goal.swap-requires
swap-requires c = (search rules, search rules, taking _ _ _ _ _ (search rules) (search rules))
