use Rattle.std.proofs.Common.{◌≡◌, ◌+◌, sym, ap, ◌∙◌, subst, arith}
use Rattle.std.specs.Prelude.{slice_index}
use Rattle.dl_cells.specs.Losses.{counted_of, reported_of}
use Rattle.dl_cells.specs.Views.{all_shares}
use Rattle.dl_desk.specs.Handles.{HandlesState}
use Rattle.dl_desk.proofs.Places.{length-put}
use Rattle.dl_account.proofs.Upto.{table_upto}
use Rattle.dl_account.proofs.waiting.losses_waiting.Goals as goal

pub loop-app-preserved : goal.loop-app-preserved
loop-app-preserved c =
    let same = c.pending.ensures.same in
    let i = c.loop-app.invariant in
    let shares : c.loop-app.handles.losses.shares ≡ all_shares = ap (λ (s : HandlesState). s.losses.shares) i.same ∙ c.requires.shares in
    record {
      same = same ∙ i.same;
      long = length-put c.loop-app.losses c.from.result c.pending.result ∙ i.long;
      each = table_upto (λ app count. reported_of app c.pending.new.self.losses.reported + count ≡ counted_of app c.pending.new.self.losses.counted)
          c.loop-app.losses c.loop-app.app c.from.result c.pending.result c.from.ensures
          (let few = c.requires.there.0 in let long = i.long in let below = c.loop-app-test.true in omega (arith, few, long, below))
          (λ app below. subst (λ (s : HandlesState). reported_of app s.losses.reported + slice_index c.loop-app.losses app ≡ counted_of app s.losses.counted) (sym same) (i.each app below))
          (subst (λ (s : HandlesState). reported_of c.loop-app.app s.losses.reported + c.pending.result ≡ counted_of c.loop-app.app s.losses.counted) (sym same) (c.pending.ensures.all shares));
    }
