use Rattle.std.proofs.Common.{rules, arith, ◌≡◌, ◌∙◌, ap, sym}
use Rattle.atomic_table.specs.Table.{Me}
use Rattle.dl_cells.specs.Views.{bit}
use Rattle.dl_cells.specs.declared.claim_words.View.{View}
use Rattle.dl_cells.specs.Claims.{refused_of}
use Rattle.dl_cells.specs.ClaimRule.{opening_view}
use Rattle.dl_cells.proofs.ClaimSums.{none_noted}
use Rattle.dl_cells.proofs.ClaimKeeping.{giving}
use Rattle.dl_cells.proofs.claim_keeper.make_claims.Goals as goal

pub split_seat-claims-requires : goal.split_seat-claims-requires
split_seat-claims-requires c = let words = c.in_ok-table.ensures.0 in let row = c.deref.ensures.len in let long = c.in_ok-row.ensures.len in
    let first : c.in_ok-table.seat.me.0 ≡ opening_view = ap (λ me. me.0) c.in_ok-table.ensures.4 in
    let shares : c.in_ok-table.seat.me.0.shares ≡ 65 = ap (λ (v : View). v.shares) first in (
      search rules,
      omega arith,
      giving _ _ _ 65 (omega arith) (λ app. let none = ap (λ (v : View). refused_of app v.refused) first in omega arith) (λ _. ap (λ (v : View). v.given) first),
    )

pub invariant_of-claimer : goal.invariant_of-claimer
invariant_of-claimer c = record {
  seated = search rules;
  apps = search rules;
  some = search rules;
  bare = search rules;
  claims = search rules;
  shares = search rules;
  noted = λ app. ap (λ (me : Me (Unit {0}) View). refused_of app me.0.refused) c.split_seat-claims.ensures.4 ∙ sym (ap bit (none_noted 256 app));
  spare = search rules;
}
