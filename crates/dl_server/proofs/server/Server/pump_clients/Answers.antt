use Rattle.std.proofs.Common.{inl, inr, refl, subst}
use Rattle.dl_server.specs.State.{State, seen}
use Rattle.dl_server.specs.Steps.{PumpsClients}
use Rattle.dl_server.proofs.RoomyServers.{roomy_server}
use Rattle.dl_server.proofs.server.Server.pump_clients.Goals as goal

pub send_clients-requires-clause-server : goal.send_clients-requires-clause-server
send_clients-requires-clause-server g c = roomy_server g.L.Link.told _ _ c.make_room.ensures.rest c.requires.server

pub returns-then-not-make_room-clause-pumps : goal.returns-then-not-make_room-clause-pumps
returns-then-not-make_room-clause-pumps g c = λ folder. (let wants = c.if-not-make_room.ensures.makes folder in inl (refl, wants.0, wants.1))

pub returns-then-not-make_room-clause-server : goal.returns-then-not-make_room-clause-server
returns-then-not-make_room-clause-server g c = roomy_server g.L.Link.told _ _ c.make_room.ensures.rest c.requires.server

pub returns-clause-pumps : goal.returns-clause-pumps
returns-clause-pumps g c = λ folder.
    inr (
    subst (λ (old : State). PumpsClients c.send_clients.result old (seen g.L.Link.told g.J.Journal.events g.J.Journal.may_run_out folder c.send_clients.new.self))
    (c.if-not-make_room.ensures.makes folder) (c.send_clients.ensures.pumps folder))
