use Rattle.dl_world_calls.proofs.Changing.{told-does}
use Rattle.dl_world_calls.proofs.calls.Calls.tell_losses.Goals as goal

pub returns : goal.returns
returns c = told-does c.self.inside.apps.items c.self.inside.writers.items c.args.self.now c.self.view_is c.args.app c.requires c.index_mut.result.now c.index_mut.ensures.value c.tell_losses.new.self c.tell_losses.ensures
