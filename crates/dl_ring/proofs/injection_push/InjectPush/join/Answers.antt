use Rattle.dl_ring.proofs.InjectionKeeping.{merges}
use Rattle.dl_ring.proofs.injection_push.InjectPush.join.Goals as goal

pub absorb-requires-clause-rule : goal.absorb-requires-clause-rule
absorb-requires-clause-rule c =
    let theirs = c.take.invariant.1 in
    merges _ _ _ _ c.self.invariant.2.pushes theirs.pushes theirs.takes theirs.joined
