use Rattle.std.proofs.Common.{sym, ◌∙◌}
use Rattle.dl_world_calls.proofs.Declaring.{writer-does}
use Rattle.dl_world_calls.proofs.calls.Calls.add_writer.Goals as goal

pub returns-in_ok-push : goal.returns-in_ok-push
returns-in_ok-push c = writer-does c.self.inside.apps.items c.self.inside.writers.items c.args.self.now c.self.view_is c.args.apid c.in-Some.app c.new.result c.push.new.self.items (sym c.number_of.ensures.number ∙ c.in-Some.is) c.new.ensures c.in_ok-push.ensures.items
