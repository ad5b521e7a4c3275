use Rattle.std.proofs.Common.{inl, inr, refl, subst}
use Rattle.dl_server.specs.Accepts.{AcceptsOne}
use Rattle.dl_server.specs.State.{State, seen}
use Rattle.dl_server.proofs.RoomyServers.{roomy_server}
use Rattle.dl_server.proofs.server.Server.accept_client.Goals as goal

pub accept_connection-requires-clause-server : goal.accept_connection-requires-clause-server
accept_connection-requires-clause-server g c = roomy_server g.L.Link.told _ _ c.make_room.ensures.rest c.requires.server

pub returns-then-not-make_room-clause-accepts : goal.returns-then-not-make_room-clause-accepts
returns-then-not-make_room-clause-accepts g c = λ folder.
    let wants = c.if-not-make_room.ensures.makes folder in
    inr (inl (c.if-self.false, refl, refl, wants.0, wants.1))

pub returns-then-not-make_room-clause-server : goal.returns-then-not-make_room-clause-server
returns-then-not-make_room-clause-server g c = roomy_server g.L.Link.told _ _ c.make_room.ensures.rest c.requires.server

pub returns-clause-accepts : goal.returns-clause-accepts
returns-clause-accepts g c = λ folder.
    let n = c.accept_connection.new in
    inr (inr (
      c.if-self.false,
      subst (λ (old : State). AcceptsOne g.L.Link.told c.accept_connection.result (g.N.Net.told c.args.net.now) (g.N.Net.told n.net) old (seen g.L.Link.told g.J.Journal.events g.J.Journal.may_run_out folder n.self))
          (c.if-not-make_room.ensures.makes folder) (c.accept_connection.ensures.accepts folder),
    ))
