use Rattle.std.proofs.Common.{rules, arith, sym, ap, ◌∙◌, Option}
use Rattle.dl_socket.specs.declared.ways.Way.{Way}
use Rattle.dl_socket.specs.Ways.{sent_by}
use Rattle.dl_socket.proofs.SetLevels.{goes_its_way, one_sent}
use Rattle.dl_socket.proofs.messenger.MessengerWriterControl.set.Goals as goal

pub returns-in-Some-clause-rest : goal.returns-in-Some-clause-rest
returns-in-Some-clause-rest c = rw (← c.self.view_is, c.set.ensures) (one_sent c.self.inside.ways.items c.self.inside.history.sets c.self.inside.history.refused c.self.inside.outboxes c.put_level.new.self c.args.slot c.args.level (search rules) (c.put_level.ensures ∙ ap (λ (o : Option Way). sent_by o c.args.level c.self.inside.outboxes) (sym c.in-Some.is) ∙ goes_its_way c.self.inside.ways.items c.args.slot c.from-place.result c.args.level c.index.result.now c.self.inside.outboxes c.from-place.ensures (let long = sym c.self.inside.ways.ok.0 ∙ c.self.invariant.0 in let within = c.requires in omega arith) c.index.ensures))

pub returns-in_default-clause-rest : goal.returns-in_default-clause-rest
returns-in_default-clause-rest c = rw (← c.self.view_is, c.set.ensures) (one_sent c.self.inside.ways.items c.self.inside.history.sets c.self.inside.history.refused c.self.inside.outboxes c.self.inside.outboxes c.args.slot c.args.level (search rules) (ap (λ (o : Option Way). sent_by o c.args.level c.self.inside.outboxes) (sym c.in_default.is) ∙ goes_its_way c.self.inside.ways.items c.args.slot c.from-place.result c.args.level c.index.result.now c.self.inside.outboxes c.from-place.ensures (let long = sym c.self.inside.ways.ok.0 ∙ c.self.invariant.0 in let within = c.requires in omega arith) c.index.ensures))
