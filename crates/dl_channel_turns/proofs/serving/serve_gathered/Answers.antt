use Rattle.std.proofs.Common.{List, Option, refl, ap, subst, ◌∙◌, length, arith}
use Rattle.dl_events.specs.declared.event.Event.{Event}
use Rattle.dl_registry.specs.Kept.{owed_change}
use Rattle.dl_core.specs.State.{Core}
use Rattle.dl_admission.specs.Admission.{ForwardsAll}
use Rattle.dl_admission.specs.Part.{part}
use Rattle.dl_channel_turns.proofs.ServedMessages.{served_none, served_together}
use Rattle.dl_channel_turns.proofs.serving.serve_gathered.Goals as goal

pub returns-then-count-eq0-clause-serves : goal.returns-then-count-eq0-clause-serves
returns-then-count-eq0-clause-serves g c = λ outboxes. served_none c.args.channel c.args.moment c.args.gathered.now _ _ refl

pub returns-clause-serves : goal.returns-clause-serves
returns-clause-serves g c =
    let told = g.F.Folder.told c.args.folder.now in
    let new = part c.admit.new.core (g.J.Journal.events c.admit.new.journal) (g.F.Folder.told c.admit.new.folder) in
    λ outboxes. served_together c.args.channel c.args.moment c.args.gathered.now c.admit.new.self _ _ c.requires.logs
    (subst (λ (events : Option (List Event)). ForwardsAll c.args.moment c.args.channel c.args.gathered.now (part c.args.core.now events told) new) c.reserve.ensures.events c.admit.ensures.forwards)
    refl c.admit.ensures.none

pub returns-clause-settled : goal.returns-clause-settled
returns-clause-settled g c = ap (λ (k : Core). owed_change k.registry) c.admit.ensures.forwards.rest ∙ c.requires.settled

pub returns-clause-ecu : goal.returns-clause-ecu
returns-clause-ecu g c = ap (λ (k : Core). k.ecu) c.admit.ensures.forwards.rest

pub returns-clause-admitted : goal.returns-clause-admitted
returns-clause-admitted g c = omega (arith, c.admit.ensures.admitted, ap length c.admit.ensures.none)
