use Rattle.std.proofs.Common.{sym, ◌∙◌, ap}
use Rattle.dl_ring.specs.Rule.{Keeps}
use Rattle.dl_ring.specs.State.{PushState}
use Rattle.dl_ring.proofs.Boxing.{boxed_pushes, boxed_learns}
use Rattle.dl_ring.proofs.Keeping.{pushes, in_order}
use Rattle.dl_ring.proofs.push.RingPush.push_box.Goals as goal

pub push_as-requires-clause-rule : goal.push_as-requires-clause-rule
push_as-requires-clause-rule g c =
    let may = c.self.invariant.1.pushes in
    (boxed_pushes Keeps _ _ _ _ _ (pushes _ _ _ _ may (c.requires ∙ sym (ap (λ (s : PushState). s.number) c.self.view_is))), boxed_learns Keeps _ _ _ (in_order _ _ may))
