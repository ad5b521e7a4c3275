use Rattle.std.proofs.Common.{ap}
use Rattle.dl_lemmas.proofs.Options.{some_is}
use Rattle.dl_world_calls.proofs.Acts.{on_ok}
use Rattle.dl_core.specs.State.{Core}
use Rattle.dl_world.proofs.Coming.{connect_does}
use Rattle.dl_world.proofs.world.World.note_connect.Goals as goal

pub returns-clause-does : goal.returns-clause-does
returns-clause-does c =
    on_ok c.deliver.result _ _
    (λ takes may. connect_does c.args.self.now c.deliver.new.self c.connect.new.self c.reserve.new.self c.connect.new.journal c.in_ok-client.client c.add.new.self c.in-Ok._number
    c.in-Ok.ensures.number c.in_ok-client.ensures.value c.in_ok-add-in-Ok.ensures (some_is c.reserve.ensures.events) c.in-Ok.ensures.after c.in-Ok.ensures.event
    (ap (λ (k : Core). k.trace) c.in-Ok.ensures.rest) c.deliver.ensures.trace takes)
    c.deliver.ensures.takes
