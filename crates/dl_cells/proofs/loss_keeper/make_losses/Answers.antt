use Rattle.std.proofs.Common.{rules, arith, ◌≡◌, length, ap}
use Rattle.dl_cells.specs.declared.loss_words.View.{View}
use Rattle.dl_cells.specs.LossRule.{opening_view}
use Rattle.dl_cells.proofs.LossKeeping.{giving}
use Rattle.dl_cells.proofs.loss_keeper.make_losses.Goals as goal

pub split_seat-counts-requires : goal.split_seat-counts-requires
split_seat-counts-requires c = let words = c.in_ok-table.ensures.0 in let row = c.deref.ensures.len in let long = c.in_ok-row.ensures.len in
    let first : c.in_ok-table.seat.me.0 ≡ opening_view = ap (λ me. me.0) c.in_ok-table.ensures.4 in
    let shares : c.in_ok-table.seat.me.0.shares ≡ 65 = ap (λ (v : View). v.shares) first in
    let counted : length c.in_ok-table.seat.me.0.counted ≡ 0 = ap (λ (v : View). length v.counted) first in
    (search rules, omega arith, giving _ _ _ 65 (omega arith) (omega arith))
