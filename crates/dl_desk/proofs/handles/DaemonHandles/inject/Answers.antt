use Rattle.dl_desk.specs.HandlesInside.{handles_state}
use Rattle.dl_desk.proofs.Steps.{pushed, refused, full}
use Rattle.dl_desk.proofs.handles.DaemonHandles.inject.Goals as goal

pub returns-clause-pushed : goal.returns-clause-pushed
returns-clause-pushed g c = rw (← c.self.view_is) (pushed (handles_state c.self.inside) c.from.result c.args.app c.index_mut.result.now c.from.ensures c.index_mut.ensures.value c.push.new.self c.args.item c.push.result c.push.ensures.pushed)

pub returns-clause-refused : goal.returns-clause-refused
returns-clause-refused g c = rw (← c.self.view_is) (refused (handles_state c.self.inside) c.from.result c.args.app c.index_mut.result.now c.from.ensures c.index_mut.ensures.value c.push.new.self c.push.result c.push.ensures.refused)

pub returns-clause-full : goal.returns-clause-full
returns-clause-full g c = rw (← c.self.view_is) (full (handles_state c.self.inside) c.from.result c.args.app c.index_mut.result.now c.from.ensures c.index_mut.ensures.value c.push.result c.push.ensures.full)
