use Rattle.std.proofs.Common.{refl, subst, arith}
use Rattle.dl_model.specs.Registry.{IsInOrder}
use Rattle.dl_registry.specs.Kept.{Kept}
use Rattle.dl_server.proofs.ClosedServers.{closed_so, half_so, stays_so}
use Rattle.dl_server.proofs.ReadyListeners.{listen_still}
use Rattle.dl_server.proofs.VisitedServers.{links_still}
use Rattle.dl_server.proofs.server.Server.close_programs.Goals as goal

pub returns-clause-closed : goal.returns-clause-closed
returns-clause-closed g c = closed_so c.args.moment c.close_channels.result _ _ refl c.close_channels.ensures.closed

pub returns-clause-some : goal.returns-clause-some
returns-clause-some g c = half_so c.args.moment c.close_channels.result _ _ refl c.close_channels.ensures.stopped

pub returns-clause-server : goal.returns-clause-server
returns-clause-server g c =
    let made = c.close_channels.ensures in
    let n = c.close_channels.new in
    let so = c.requires.server in
    let stays = stays_so c.args.moment c.close_channels.result _ _ made.closed made.stopped in
    let order = subst (λ (k : Kept). IsInOrder k.registry) c.registry-registry.ensures c.slots_are_apart.ensures.order in
    record {
      linked = links_still _ _ n.core stays.clients made.settled so.linked;
      heard = listen_still _ _ n.core order stays.clients so.heard;
      programs = made.linked;
      given = omega (arith, so.given, stays.opened, stays.in_all);
      enough = omega (arith, so.enough, stays.in_all);
      few = made.few;
      shut = λ noted. absurd (cc noted);
    }

pub returns-clause-limits : goal.returns-clause-limits
returns-clause-limits g c =
    let stays = stays_so c.args.moment c.close_channels.result _ _ c.close_channels.ensures.closed c.close_channels.ensures.stopped in
    record { clients = stays.clients.1.same.limit; channels = stays.in_all }
