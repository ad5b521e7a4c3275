use Rattle.std.proofs.Common.{◌≡◌, ◌≤◌, ◌+◌, [], Some, IsSome, sym, refl, ap, subst, ◌∙◌, arith}
use Rattle.dl_channel_turns.specs.State.{side}
use Rattle.dl_model.specs.Registry.{app_of}
use Rattle.dl_registry.specs.Kept.{Kept, first_app}
use Rattle.dl_socket.specs.Messenger.{Messenger}
use Rattle.dl_socket.proofs.Unregistered.{one_fewer, one_more}
use Rattle.dl_socket.proofs.closing.unregister_all.Goals as goal

pub returns-in-Err-clause-unregistered : goal.returns-in-Err-clause-unregistered
returns-in-Err-clause-unregistered g c = c.loop-apid.invariant.rest [] _ c.in-Err.ensures.unserved

pub loop-apid-smaller : goal.loop-apid-smaller
loop-apid-smaller g c =
    let first : first_app c.loop-apid.core.registry.registry c.args.channel ≡ Some c.in-Some.apid = ap (λ (k : Kept). first_app k.registry c.args.channel) (sym c.registry.ensures) ∙ sym c.first_app.ensures.first ∙ c.in-Some.is in
    let there : IsSome (app_of c.loop-apid.core.registry.registry c.args.channel c.in-Some.apid) = subst (λ (k : Kept). IsSome (app_of k.registry c.args.channel c.in-Some.apid)) c.registry.ensures c.in-Some.ensures.there in
    one_fewer c.args.channel c.args.moment c.in-Some.apid
    (side c.loop-apid.core c.loop-apid.messenger.outboxes (g.J.Journal.events c.loop-apid.journal) (g.F.Folder.told c.loop-apid.folder))
    (side c.take_in.new.core c.take_in.new.self.outboxes (g.J.Journal.events c.take_in.new.journal) (g.F.Folder.told c.take_in.new.folder)) first there c.in-Ok.ensures.serves

pub loop-apid-preserved : goal.loop-apid-preserved
loop-apid-preserved g c =
    let first : first_app c.loop-apid.core.registry.registry c.args.channel ≡ Some c.in-Some.apid = ap (λ (k : Kept). first_app k.registry c.args.channel) (sym c.registry.ensures) ∙ sym c.first_app.ensures.first ∙ c.in-Some.is in
    let more : c.take_in.new.core.hub.admitted ≤ c.loop-apid.core.hub.admitted + 0 = c.take_in.ensures.admitted in
    let few = c.loop-apid.invariant.few in
    record {
      settled = c.take_in.ensures.settled;
      few = (omega (arith, more, few));
      same = c.take_in.ensures.rest ∙ ap (λ (m : Messenger). record m { outboxes = c.take_in.new.self.outboxes }) c.loop-apid.invariant.same;
      rest = one_more c.args.channel c.args.moment (side c.args.core.now c.args.messenger.now.outboxes (g.J.Journal.events c.args.journal.now) (g.F.Folder.told c.args.folder.now))
          (side c.loop-apid.core c.loop-apid.messenger.outboxes (g.J.Journal.events c.loop-apid.journal) (g.F.Folder.told c.loop-apid.folder))
          (side c.take_in.new.core c.take_in.new.self.outboxes (g.J.Journal.events c.take_in.new.journal) (g.F.Folder.told c.take_in.new.folder)) c.in-Some.apid
          c.loop-apid.invariant.rest first c.in-Ok.ensures.serves;
    }

pub returns-clause-unregistered : goal.returns-clause-unregistered
returns-clause-unregistered g c = c.loop-apid.invariant.rest [] _ refl
