use Rattle.std.proofs.Common.{◌≡◌, ℕ, ◌<◌, ◌^◌, List, length, sym, ap, ◌∙◌, subst, arith}
use Rattle.dl_cells.specs.Views.{all_shares}
use Rattle.dl_ring.specs.declared.item.RingItem.{RingItem}
use Rattle.dl_desk.specs.Handles.{HandlesState, QueueHolds, RingHolds}
use Rattle.dl_desk.specs.Lists.{At}
use Rattle.dl_account.specs.Joining.{AreGiven}
use Rattle.dl_account.proofs.Upto.{upto_one}
use Rattle.dl_account.proofs.waiting.look_at_handles.Goals as goal

pub loop-app-preserved : goal.loop-app-preserved
loop-app-preserved c =
    let i = c.loop-app.invariant in
    let e : HandlesState = c.look.new.self in
    let new : HandlesState = c.given.new.self in
    let looked = c.look.ensures in
    let found = c.given.ensures in
    let same : new ≡ c.loop-app.handles = found.same ∙ looked.same in
    let shares : e.levels.shares ≡ all_shares = ap (λ (s : HandlesState). s.levels.shares) (looked.same ∙ i.same) ∙ c.requires.shares in
    record {
      same = same ∙ i.same;
      rings = upto_one (λ app. (contents : List RingItem) × RingHolds new app contents) c.loop-app.app
          (λ app below. subst (λ (s : HandlesState). (contents : List RingItem) × RingHolds s app contents) (sym same) (i.rings app below))
          (subst (λ (s : HandlesState). (contents : List RingItem) × RingHolds s c.loop-app.app contents) (sym found.same) looked.ring);
      queues = upto_one (λ app. (left : ℕ) × QueueHolds new app left) c.loop-app.app
          (λ app below. subst (λ (s : HandlesState). (left : ℕ) × QueueHolds s app left) (sym same) (i.queues app below))
          (subst (λ (s : HandlesState). (left : ℕ) × QueueHolds s c.loop-app.app left) (sym found.same) looked.queue);
      range = upto_one (λ app. At new.apps app (λ e. length e.queue.pushed < 2 ^ 64)) c.loop-app.app
          (λ app below. subst (λ (s : HandlesState). At s.apps app (λ e. length e.queue.pushed < 2 ^ 64)) (sym same) (i.range app below))
          (subst (λ (s : HandlesState). At s.apps c.loop-app.app (λ e. length e.queue.pushed < 2 ^ 64)) (sym found.same) looked.range);
      given = upto_one (λ app. (count : ℕ) × AreGiven app count new.levels) c.loop-app.app
          (λ app below. subst (λ (s : HandlesState). (count : ℕ) × AreGiven app count s.levels) (sym same) (i.given app below))
          (subst (λ (s : HandlesState). (count : ℕ) × AreGiven c.loop-app.app count s.levels) (sym found.same)
          (c.given.result, record { once = found.all shares; long = found.count shares; full = found.full }));
    }

pub returns-clause-given : goal.returns-clause-given
returns-clause-given c app below = c.loop-app.invariant.given app (omega (arith, below, c.loop-app.auto.app-end, c.loop-app-test.false))
