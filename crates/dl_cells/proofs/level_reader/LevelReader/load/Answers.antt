use Rattle.std.proofs.Common.{rules}
use Rattle.dl_cells.proofs.LevelKeeping.{loads}
use Rattle.dl_cells.proofs.level_reader.LevelReader.load.Goals as goal

pub load-word-requires : goal.load-word-requires
load-word-requires c = (search rules, search rules, loads _ _ _ _ _ (search rules))
