use Rattle.std.proofs.Common.{refl, sym, ap, ◌∙◌, arith}
use Rattle.std.proofs.lemmas.List.{length-map}
use Rattle.dl_loop.proofs.Visited.{heard_admits_none}
use Rattle.dl_socket.specs.Channels.{Channels}
use Rattle.dl_server.proofs.Servers.{heard_limit, linked_so, links_of}
use Rattle.dl_server.proofs.ServedClients.{served_links}
use Rattle.dl_server.proofs.server.Server.serve_clients.Goals as goal

pub listen_all-requires-clause-linked : goal.listen_all-requires-clause-linked
listen_all-requires-clause-linked g c = linked_so _ _ _ c.requires.server.linked c.requires.room

pub returns-clause-hears : goal.returns-clause-hears
returns-clause-hears g c =
    let made = c.listen_all.ensures in
    record { serves = made.serves; many = made.linked.many ∙ sym (length-map _ _); settled = made.linked.settled; rest = refl }

pub returns-clause-server : goal.returns-clause-server
returns-clause-server g c =
    let made = c.listen_all.ensures in
    let so = c.requires.server in
    record {
      linked = links_of _ _ _ made.linked;
      heard = made.heard;
      programs = served_links made.serves so.programs;
      given = omega (arith, so.given, ap (λ (cs : Channels). cs.opened) made.serves.is, ap (λ (cs : Channels). cs.in_all) made.serves.is);
      enough = omega (arith, so.enough, ap (λ (cs : Channels). cs.in_all) made.serves.is);
      few = omega (arith, so.few, heard_admits_none c.listen_all.result _ _ made.serves.visits);
      shut = λ noted. c.links_of_gone_clients_are_shut.ensures.heard c.listen_all.result _ _ made.serves.visits (so.shut noted);
    }

pub returns-clause-limits : goal.returns-clause-limits
returns-clause-limits g c =
    let serves = c.listen_all.ensures.serves in
    record { clients = heard_limit c.listen_all.result _ _ serves.visits; channels = ap (λ (cs : Channels). cs.in_all) serves.is }
