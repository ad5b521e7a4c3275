use Rattle.dl_ring.proofs.InjectionKeeping.{rests}
use Rattle.dl_ring.proofs.injection_push.InjectPush.look.Goals as goal

pub learn_as-requires-clause-rule : goal.learn_as-requires-clause-rule
learn_as-requires-clause-rule c = rests _ _ c.self.invariant.2.pushes
