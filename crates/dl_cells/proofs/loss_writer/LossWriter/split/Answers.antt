use Rattle.std.proofs.Common.{rules, arith, ◌<◌, vec_len}
use Rattle.dl_cells.proofs.LossKeeping.{giving}
use Rattle.dl_cells.proofs.loss_writer.LossWriter.split.Goals as goal

pub split_seat-seat-requires : goal.split_seat-seat-requires
split_seat-seat-requires c = let left : 0 < vec_len c.self.inside.spare = search rules in let shares = c.self.invariant.shares in let few = c.self.invariant.few in (search rules, search rules, giving _ _ _ 1 (omega arith) (omega arith))
