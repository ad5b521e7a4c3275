use Rattle.std.proofs.Common.{subst, arith}
use Rattle.dl_registry.specs.Kept.{Kept}
use Rattle.dl_turns.specs.Events.{IsDeskOf}
use Rattle.dl_server.proofs.Servers.{connects_so, linked_so, links_of, room_so}
use Rattle.dl_server.proofs.ShutServers.{accepted_shut}
use Rattle.dl_server.proofs.server.Server.accept_connection.Goals as goal

pub accept_one-came-requires-clause-linked : goal.accept_one-came-requires-clause-linked
accept_one-came-requires-clause-linked g c = linked_so _ _ _ c.requires.server.linked c.requires.room

pub accept_one-came-requires-clause-spare : goal.accept_one-came-requires-clause-spare
accept_one-came-requires-clause-spare g c = λ place. room_so _ _ _ c.requires.server.linked c.requires.room

pub returns-clause-server : goal.returns-clause-server
returns-clause-server g c =
    let made = c.accept_one-came.ensures in
    let so = c.requires.server in
    let stays = connects_so c.accept_one-came.result _ _ _ _ made.connects in
    record {
      linked = links_of _ _ _ made.linked;
      heard = λ desk desk_so. made.heard _ desk (so.heard desk (subst (λ (k : Kept). IsDeskOf k desk) stays.registry desk_so));
      programs = so.programs;
      given = so.given;
      enough = so.enough;
      few = omega (arith, so.few, stays.admitted);
      shut = λ noted. accepted_shut g.L.Link.told c.accept_one-came.result _ _ _ _ _ _ _ _ _ _ made.arrives made.connects so.linked.many (so.shut noted);
    }
