use Rattle.std.proofs.Common.{ℕ, List, refl, ap, subst, ◌∙◌}
use Rattle.dl_channel.specs.State.{Outbox}
use Rattle.dl_registry.specs.Kept.{Kept}
use Rattle.dl_turns.specs.Events.{IsDeskOf}
use Rattle.dl_socket.specs.Channels.{Channels}
use Rattle.dl_socket.specs.Messenger.{told_by}
use Rattle.dl_socket.specs.Turns.{told_each}
use Rattle.dl_socket.specs.Ways.{AreWaysOf}
use Rattle.dl_socket.proofs.OpenChannels.{fits_with_outboxes, same_open, sent_open}
use Rattle.dl_socket.proofs.ToldLevels.{asked_told, learnt_desk}
use Rattle.dl_socket.proofs.channels.Channels.close_clients.Goals as goal

pub close_all-requires-clause-heard : goal.close_all-requires-clause-heard
close_all-requires-clause-heard g c = c.requires.heard (told_by c.learn.new.self)
    (subst (λ (k : Kept). IsDeskOf k (told_by c.learn.new.self)) c.registry-registry.ensures (learnt_desk c.registry-registry.result.now c.learn.new.self c.slots_are_apart.ensures.order c.learn.ensures.versions))

pub invariant_of-self : goal.invariant_of-self
invariant_of-self g c = fits_with_outboxes c.self.inside.messenger.outboxes c.self.inside.inboxes.entries c.self.inside.opened c.self.inside.at_once c.self.inside.in_all _ c.self.invariant
    (λ other. same_open _ _ c.close_all.ensures.rest.outboxes other ∙ sent_open c.learn.new.self.ways c.close_all.ensures.rest.changes c.learn.new.self.outboxes other ∙ same_open _ _ c.learn.ensures.outboxes other)

pub returns-clause-serves : goal.returns-clause-serves
returns-clause-serves g c =
    let ways : AreWaysOf c.args.core.now.registry.registry c.learn.new.self.ways = subst (λ (k : Kept). AreWaysOf k.registry c.learn.new.self.ways) c.registry-registry.ensures c.learn.ensures.ways in
    record {
      desk = told_by c.learn.new.self;
      desk_now = told_by c.close_all.new.desk;
      desk_so = subst (λ (k : Kept). IsDeskOf k (told_by c.learn.new.self)) c.registry-registry.ensures (learnt_desk c.registry-registry.result.now c.learn.new.self c.slots_are_apart.ensures.order c.learn.ensures.versions);
      visits = c.close_all.ensures.visits;
      changes = c.close_all.ensures.rest.changes;
      sets = c.close_all.ensures.rest.sets;
      pushed = λ app. (refl, refl);
      told_so = asked_told c.args.core.now.registry.registry c.learn.new.self c.close_all.new.desk c.close_all.ensures.rest ways
          ∙ ap (λ (o : List (ℕ × Outbox)). told_each c.args.core.now.registry.registry c.close_all.ensures.rest.changes o) c.learn.ensures.outboxes
          ∙ ap (λ (s : Channels). told_each c.args.core.now.registry.registry c.close_all.ensures.rest.changes s.outboxes) c.self.view_is;
      is = ap (λ (s : Channels). record s { outboxes = c.close_all.new.desk.outboxes }) c.self.view_is;
    }

pub returns-clause-heard : goal.returns-clause-heard
returns-clause-heard g c = λ desk desk_so.
    let heard = c.close_all.ensures.heard in
    record { enough = heard.enough; limits = heard.limits; counts = heard.counts; unused = heard.unused; waiting = heard.waiting; desk_so = desk_so }
