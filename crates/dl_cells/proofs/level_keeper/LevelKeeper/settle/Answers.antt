use Rattle.std.proofs.Common.{rules}
use Rattle.dl_cells.proofs.LevelKeeping.{loads}
use Rattle.dl_cells.proofs.level_keeper.LevelKeeper.settle.Goals as goal

pub load-requires : goal.load-requires
load-requires c = (search rules, search rules, loads _ _ _ _ _ (search rules))
