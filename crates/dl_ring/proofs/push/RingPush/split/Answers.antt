use Rattle.std.proofs.Common.{◌∙◌, ap}
use Rattle.dl_ring.specs.declared.view.View.{View}
use Rattle.dl_ring.proofs.Owners.{handed_out, stays_pusher}
use Rattle.dl_ring.proofs.push.RingPush.split.Goals as goal

pub invariant_of-self : goal.invariant_of-self
invariant_of-self c =
    let same = c.new_pass-pass.ensures.same in
    let was = c.self.invariant in (
      (same.0.0 ∙ was.0.0, same.0.2 ∙ was.0.1),
      stays_pusher _ _ _ same.1 was.1,
      handed_out _ _ _ _ _ _ _ c.from.ensures c.take.ensures.after (ap (λ (v : View). v.given) same.1) (rw c.in-Some.is at was.2),
    )
