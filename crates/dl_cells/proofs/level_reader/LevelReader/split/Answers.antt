use Rattle.std.proofs.Common.{rules}
use Rattle.dl_cells.proofs.LevelKeeping.{splits}
use Rattle.dl_cells.proofs.level_reader.LevelReader.split.Goals as goal

pub split_seat-seat-requires : goal.split_seat-seat-requires
split_seat-seat-requires c = (search rules, search rules, splits _ _ _)
