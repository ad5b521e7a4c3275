use Rattle.dl_desk.specs.HandlesInside.{handles_state}
use Rattle.dl_desk.proofs.Steps.{passes}
use Rattle.dl_desk.proofs.handles.DaemonHandles.join_passes.Goals as goal

pub returns-clause-joined : goal.returns-clause-joined
returns-clause-joined c = rw (← c.self.view_is)
    (passes (handles_state c.self.inside) c.from.result c.args.app c.index_mut-handles.result.now c.from.ensures c.index_mut-handles.ensures.value c.args.push c.args.injections
    (record { ring = c.join-refusals.new.self; queue = c.join.new.self }) (λ i. record { ring = c.join-refusals.ensures.joined i; queue = c.join.ensures.joined i }))
