use Rattle.std.proofs.Common.{◌∙◌, ap}
use Rattle.crossbeam_queue.specs.Passes.{ruled_capacity}
use Rattle.dl_ring.proofs.InjectionKeeping.{pushes, full}
use Rattle.dl_ring.proofs.injection_push.InjectPush.push.Goals as goal

pub push_as-requires-clause-rule : goal.push_as-requires-clause-rule
push_as-requires-clause-rule g c =
    let mine = c.self.invariant.2 in
    (pushes _ _ _ _ (ap ruled_capacity c.deref.ensures ∙ c.self.invariant.1) mine.pushes mine.counts, full _ _ mine.pushes)
