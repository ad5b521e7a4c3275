use Rattle.dl_ring.specs.Rule.{Keeps}
use Rattle.dl_ring.proofs.Boxing.{boxed_pops, boxed_learns}
use Rattle.dl_ring.proofs.Keeping.{takes, rests}
use Rattle.dl_ring.proofs.take.RingTake.take_box.Goals as goal

pub pop_as-requires-clause-rule : goal.pop_as-requires-clause-rule
pop_as-requires-clause-rule g c =
    let may = c.self.invariant.1.takes in
    (boxed_pops Keeps _ _ _ (takes _ _ may), boxed_learns Keeps _ _ _ (rests _ _ may))
