use Rattle.std.proofs.Common.{refl, sym, subst, ◌∙◌, arith}
use Rattle.std.proofs.lemmas.List.{length-map}
use Rattle.dl_model.specs.Registry.{IsInOrder}
use Rattle.dl_registry.specs.Kept.{Kept}
use Rattle.dl_server.proofs.ReadyListeners.{heard_listen}
use Rattle.dl_server.proofs.Servers.{linked_so, links_of}
use Rattle.dl_server.proofs.PumpedServers.{pumped_admitted}
use Rattle.dl_server.proofs.ShutServers.{pumped_shut}
use Rattle.dl_server.proofs.server.Server.send_clients.Goals as goal

pub pump_all-requires : goal.pump_all-requires
pump_all-requires g c = record { linked = linked_so _ _ _ c.requires.server.linked c.requires.room }

pub returns-clause-pumps : goal.returns-clause-pumps
returns-clause-pumps g c = λ folder.
    let made = c.pump_all.ensures in
    record { pumps = made.visits; many = made.linked.many ∙ sym (length-map _ _); settled = made.linked.settled; rest = refl }

pub returns-clause-server : goal.returns-clause-server
returns-clause-server g c =
    let made = c.pump_all.ensures in
    let n = c.pump_all.new in
    let so = c.requires.server in
    let order = subst (λ (k : Kept). IsInOrder k.registry) c.registry-registry.ensures c.slots_are_apart.ensures.order in
    record {
      linked = links_of _ _ _ made.linked;
      heard = heard_listen _ _ n.core order (λ desk heard. made.heard _ desk heard) so.heard;
      programs = so.programs;
      given = so.given;
      enough = so.enough;
      few = omega (arith, so.few, pumped_admitted c.pump_all.result _ _ _ n.core _ _ made.visits);
      shut = λ noted. pumped_shut c.links_of_gone_clients_are_shut.ensures.pumped c.pump_all.result _ _ _ n.core _ _ made.visits (so.shut noted);
    }

pub returns-clause-limits : goal.returns-clause-limits
returns-clause-limits g c = record { clients = c.pump_all.ensures.same.limit; channels = refl }
