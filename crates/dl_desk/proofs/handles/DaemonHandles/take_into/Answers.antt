use Rattle.dl_ring.specs.Items.{took}
use Rattle.dl_desk.specs.HandlesInside.{handles_state}
use Rattle.dl_desk.proofs.Steps.{taken, taken_none, rest, empty}
use Rattle.dl_desk.proofs.handles.DaemonHandles.take_into.Goals as goal

pub returns-clause-taken : goal.returns-clause-taken
returns-clause-taken g c = rw (← c.self.view_is) (taken (handles_state c.self.inside) c.from.result c.args.app c.index_mut.result.now c.from.ensures c.index_mut.ensures.value c.take_into.new.self (took c.take_into.result c.take_into.new.item) c.take_into.ensures.taken)

pub returns-clause-rest : goal.returns-clause-rest
returns-clause-rest g c = rest (handles_state c.self.inside) c.from.result c.args.app c.index_mut.result.now c.from.ensures c.index_mut.ensures.value c.take_into.new.self (took c.take_into.result c.take_into.new.item) c.take_into.ensures.rest

pub returns-clause-none : goal.returns-clause-none
returns-clause-none g c = rw (← c.self.view_is) (taken_none (handles_state c.self.inside) c.from.result c.args.app c.index_mut.result.now c.from.ensures c.index_mut.ensures.value c.take_into.new.self (took c.take_into.result c.take_into.new.item) c.take_into.ensures.none)

pub returns-clause-empty : goal.returns-clause-empty
returns-clause-empty g c = empty (handles_state c.self.inside) c.from.result c.args.app c.index_mut.result.now c.from.ensures c.index_mut.ensures.value c.take_into.new.self (took c.take_into.result c.take_into.new.item) c.take_into.ensures.empty
