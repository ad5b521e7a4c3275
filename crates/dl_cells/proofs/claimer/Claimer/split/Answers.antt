use Rattle.std.proofs.Common.{rules, arith, ◌<◌, ◌∙◌, ap, sym, false, slice_index_or, vec_len}
use Rattle.atomic_table.specs.Table.{Me}
use Rattle.dl_cells.specs.Views.{bit}
use Rattle.dl_cells.proofs.Bits.{bit_small}
use Rattle.dl_cells.specs.declared.claim_words.View.{View}
use Rattle.dl_cells.specs.Claims.{refused_of}
use Rattle.dl_cells.proofs.ClaimKeeping.{giving}
use Rattle.dl_cells.proofs.ClaimSums.{none_noted}
use Rattle.dl_cells.proofs.claimer.Claimer.split.Goals as goal

pub split_seat-seat-requires : goal.split_seat-seat-requires
split_seat-seat-requires c = let left : 0 < vec_len c.self.inside.spare = search rules in let shares = c.self.invariant.shares in (
  search rules,
  search rules,
  giving _ _ _ 1 (omega arith) (λ app. let noted = c.self.invariant.noted app in let small = bit_small (slice_index_or c.self.inside.none_left app false) in omega arith) (λ zero. absurd (omega arith)),
)

pub invariant_of-result : goal.invariant_of-result
invariant_of-result c = record {
  seated = search rules;
  apps = search rules;
  some = search rules;
  bare = search rules;
  claims = search rules;
  shares = search rules;
  noted = λ app. ap (λ (me : Me (Unit {0}) View). refused_of app me.0.refused) c.split_seat-seat.ensures.4 ∙ sym (ap bit (none_noted 256 app));
  spare = search rules;
}
