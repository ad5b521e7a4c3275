use Rattle.std.proofs.Common.{rules}
use Rattle.dl_cells.proofs.LevelKeeping.{joins}
use Rattle.dl_cells.proofs.level_keeper.LevelKeeper.join.Goals as goal

pub join_seat-requires : goal.join_seat-requires
join_seat-requires c = (search rules, search rules, search rules, search rules, joins _ _ _ _ _)
