use Rattle.dl_world_calls.proofs.Changing.{took-call, took-claim, next_there}
use Rattle.dl_world_calls.proofs.calls.Calls.take.Goals as goal

pub returns-clause-call : goal.returns-clause-call
returns-clause-call c = took-call c.self.inside.apps.items c.self.inside.writers.items c.args.self.now c.self.view_is c.args.app (next_there c.args.self.now c.args.app c.requires).0 c.index_mut.result.now c.index_mut.ensures.value c.take_first.new.self c.take_first.ensures

pub returns-clause-claim : goal.returns-clause-claim
returns-clause-claim c = took-claim c.self.inside.apps.items c.self.inside.writers.items c.args.self.now c.self.view_is c.args.app (next_there c.args.self.now c.args.app c.requires).0 c.index_mut.result.now c.index_mut.ensures.value c.take_first.new.self c.take_first.ensures
