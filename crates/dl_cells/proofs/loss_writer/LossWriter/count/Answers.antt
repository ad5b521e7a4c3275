use Rattle.std.proofs.Common.{rules}
use Rattle.dl_cells.proofs.LossKeeping.{counting}
use Rattle.dl_cells.proofs.loss_writer.LossWriter.count.Goals as goal

pub fetch_add-requires : goal.fetch_add-requires
fetch_add-requires c = (search rules, search rules, counting _ _ _ _ _ (search rules) (search rules) (search rules))
