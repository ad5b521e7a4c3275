use Rattle.dl_ring.specs.Rule.{Keeps}
use Rattle.dl_ring.proofs.Boxing.{boxed_merges}
use Rattle.dl_ring.proofs.Keeping.{merges}
use Rattle.dl_ring.proofs.take.RingTake.join.Goals as goal

pub absorb-requires-clause-rule : goal.absorb-requires-clause-rule
absorb-requires-clause-rule c =
    let theirs = c.push.invariant.1 in
    boxed_merges Keeps _ _ _ _ _ _ (merges _ _ _ _ c.self.invariant.1.takes theirs.takes theirs.pushes theirs.joined)
