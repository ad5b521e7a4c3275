use Rattle.std.proofs.Common.{inl, inr, subst}
use Rattle.dl_turns.specs.Gone.{TellTheEnd}
use Rattle.dl_server.specs.Closing.{ClosesClients}
use Rattle.dl_server.specs.State.{State, seen}
use Rattle.dl_server.proofs.RoomyServers.{limits_both, roomy_limits, roomy_server}
use Rattle.dl_server.proofs.server.Server.close.Goals as goal

pub close_clients-requires-clause-server : goal.close_clients-requires-clause-server
close_clients-requires-clause-server g c = roomy_server g.L.Link.told _ _ c.make_room.ensures.rest c.close_programs.ensures.server

pub returns-in-Err-clause-half : goal.returns-in-Err-clause-half
returns-in-Err-clause-half g c = inl c.in-Err.ensures.some

pub returns-then-not-make_room-clause-half : goal.returns-then-not-make_room-clause-half
returns-then-not-make_room-clause-half g c =
    let folder = g.F.Folder.told c.close_programs.new.folder in
    let wants = c.if-not-make_room.ensures.makes folder in
    inr (seen g.L.Link.told g.J.Journal.events g.J.Journal.may_run_out folder c.close_programs.new.self, c.in-Ok.ensures.closed, wants.0, wants.1)

pub returns-clause-closed : goal.returns-clause-closed
returns-clause-closed g c =
    let folder = g.F.Folder.told c.close_programs.new.folder in
    let s = seen g.L.Link.told g.J.Journal.events g.J.Journal.may_run_out in
    let n = c.close_clients.new in
    record {
      between = s folder c.close_programs.new.self;
      programs = c.in-Ok.ensures.closed;
      clients = subst (λ (old : State). ClosesClients (TellTheEnd g.L.Link.told) old (s (g.F.Folder.told n.folder) n.self)) (c.if-not-make_room.ensures.makes folder) c.close_clients.ensures.closes;
    }

pub returns-clause-limits : goal.returns-clause-limits
returns-clause-limits g c =
    limits_both _ _ _ c.close_programs.ensures.limits (limits_both _ _ _ (roomy_limits _ _ c.make_room.ensures.rest) c.close_clients.ensures.limits)
