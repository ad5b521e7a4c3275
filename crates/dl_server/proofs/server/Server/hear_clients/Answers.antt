use Rattle.std.proofs.Common.{inl, inr, refl, subst}
use Rattle.dl_server.specs.State.{State, seen}
use Rattle.dl_server.specs.Steps.{HearsClients}
use Rattle.dl_server.proofs.RoomyServers.{roomy_server}
use Rattle.dl_server.proofs.server.Server.hear_clients.Goals as goal

pub serve_clients-requires-clause-server : goal.serve_clients-requires-clause-server
serve_clients-requires-clause-server g c = roomy_server g.L.Link.told _ _ c.make_room.ensures.rest c.requires.server

pub returns-then-is_nobody_open-clause-hears : goal.returns-then-is_nobody_open-clause-hears
returns-then-is_nobody_open-clause-hears g c = inl (refl, c.is_nobody_open.ensures.none c.if-is_nobody_open.true, refl)

pub returns-then-not-make_room-clause-hears : goal.returns-then-not-make_room-clause-hears
returns-then-not-make_room-clause-hears g c = let wants = c.if-not-make_room.ensures.makes (g.F.Folder.told c.args.folder.now) in
    inr (inl (refl, wants.0, c.is_nobody_open.ensures.some c.if-is_nobody_open.false, wants.1))

pub returns-then-not-make_room-clause-server : goal.returns-then-not-make_room-clause-server
returns-then-not-make_room-clause-server g c = roomy_server g.L.Link.told _ _ c.make_room.ensures.rest c.requires.server

pub returns-clause-hears : goal.returns-clause-hears
returns-clause-hears g c =
    let n = c.serve_clients.new in
    inr (inr (
    subst (λ (old : State). HearsClients c.serve_clients.result old (seen g.L.Link.told g.J.Journal.events g.J.Journal.may_run_out (g.F.Folder.told n.folder) n.self))
    (c.if-not-make_room.ensures.makes (g.F.Folder.told c.args.folder.now)) c.serve_clients.ensures.hears))
