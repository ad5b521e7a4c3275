use Rattle.std.proofs.Common.{◌≡◌, length, refl, ap, subst, ◌∙◌, arith}
use Rattle.dl_hub.specs.State.{Hub}
use Rattle.dl_model.specs.Registry.{IsInOrder}
use Rattle.dl_registry.specs.Kept.{Kept}
use Rattle.dl_rounds.specs.Ready.{open_clients}
use Rattle.dl_loop.proofs.SeenDaemons.{slice_back}
use Rattle.dl_server.proofs.ReadyListeners.{listen_still}
use Rattle.dl_server.proofs.ShutServers.{shut_noted}
use Rattle.dl_server.proofs.VisitedScenes.{all_heard}
use Rattle.dl_server.proofs.VisitedServers.{heard_so, links_still}
use Rattle.dl_server.proofs.server.Server.hear_programs.Goals as goal

pub hear_all-moved-requires-clause-enough : goal.hear_all-moved-requires-clause-enough
hear_all-moved-requires-clause-enough g c = let so = c.requires.server in omega (arith, so.given, so.enough, ap (λ (es : _). length es) c.deref_mut.ensures.value)

pub returns-clause-hears : goal.returns-clause-hears
returns-clause-hears g c =
    let made = c.hear_all-moved.ensures in
    let long : length c.hear_all-moved.new.ends ≡ c.args.self.now.ends.len = made.ends ∙ c.deref_mut.ensures.len in
    heard_so c.args.moment c.hear_all-moved.result _ _ c.deref_mut.result.now c.hear_all-moved.new.ends c.deref_mut.ensures.value (slice_back _ _ c.hear_all-moved.new.ends long) made.hears refl

pub returns-clause-server : goal.returns-clause-server
returns-clause-server g c =
    let made = c.hear_all-moved.ensures in
    let n = c.hear_all-moved.new in
    let so = c.requires.server in
    let stays = all_heard c.args.moment c.hear_all-moved.result _ _ made.hears in
    let order = subst (λ (k : Kept). IsInOrder k.registry) c.registry-registry.ensures c.slots_are_apart.ensures.order in
    let long : length n.ends ≡ c.args.self.now.ends.len = made.ends ∙ c.deref_mut.ensures.len in
    record {
      linked = links_still _ _ n.core stays.clients made.settled so.linked;
      heard = listen_still _ _ n.core order stays.clients so.heard;
      programs = made.linked;
      given = omega (arith, so.given, stays.opened, stays.in_all);
      enough = omega (arith, so.enough, stays.in_all, made.ends, ap (λ (es : _). length es) c.deref_mut.ensures.value, ap (λ (es : _). length es) (slice_back c.args.self.now.ends.len c.args.self.now.ends.items n.ends long));
      few = made.few;
      shut = shut_noted _ _ _ _ _ _ _ stays.clients (c.open_clients-open.ensures.count ∙ ap (λ (h : Hub). open_clients h) c.hub.ensures)
          (c.open_clients.ensures.count ∙ ap (λ (h : Hub). open_clients h) c.hub-2.ensures) refl so.shut;
    }

pub returns-clause-limits : goal.returns-clause-limits
returns-clause-limits g c =
    let stays = all_heard c.args.moment c.hear_all-moved.result _ _ c.hear_all-moved.ensures.hears in
    record { clients = stays.clients.1.same.limit; channels = stays.in_all }
