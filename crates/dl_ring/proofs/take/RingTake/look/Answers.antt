use Rattle.dl_ring.specs.Rule.{Keeps}
use Rattle.dl_ring.proofs.Boxing.{boxed_learns}
use Rattle.dl_ring.proofs.Keeping.{rests}
use Rattle.dl_ring.proofs.take.RingTake.look.Goals as goal

pub learn_as-requires-clause-rule : goal.learn_as-requires-clause-rule
learn_as-requires-clause-rule c = boxed_learns Keeps _ _ _ (rests _ _ c.self.invariant.1.takes)
