use Rattle.std.proofs.Common.{rules}
use Rattle.dl_cells.proofs.LossKeeping.{looking}
use Rattle.dl_cells.proofs.loss_keeper.LossKeeper.pending.Goals as goal

pub load-requires : goal.load-requires
load-requires c = (search rules, search rules, looking _ _ _ _ _ (search rules) (search rules))
