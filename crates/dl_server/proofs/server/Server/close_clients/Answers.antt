use Rattle.std.proofs.Common.{refl, sym, ap, ◌∙◌}
use Rattle.std.proofs.lemmas.List.{length-map}
use Rattle.dl_socket.specs.Channels.{Channels}
use Rattle.dl_server.proofs.Servers.{closed_limit, linked_so, links_of}
use Rattle.dl_server.proofs.server.Server.close_clients.Goals as goal

pub close_clients-requires-clause-linked : goal.close_clients-requires-clause-linked
close_clients-requires-clause-linked g c = linked_so _ _ _ c.requires.server.linked c.requires.room

pub returns-clause-closes : goal.returns-clause-closes
returns-clause-closes g c =
    let made = c.close_clients.ensures in
    record { serves = made.serves; none_open = made.none; many = made.linked.many ∙ sym (length-map _ _); settled = made.linked.settled; rest = refl }

pub returns-clause-linked : goal.returns-clause-linked
returns-clause-linked g c = links_of _ _ _ c.close_clients.ensures.linked

pub returns-clause-limits : goal.returns-clause-limits
returns-clause-limits g c =
    let serves = c.close_clients.ensures.serves in
    record { clients = closed_limit _ _ serves.visits; channels = ap (λ (cs : Channels). cs.in_all) serves.is }
