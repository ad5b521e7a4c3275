use Rattle.std.proofs.Common.{◌≡◌, ℕ, Bool, false, List, Option, Ok, sym, subst, ap, ◌∙◌}
use Rattle.dl_channel.specs.State.{Outbox}
use Rattle.dl_events.specs.declared.event.Event.{Event}
use Rattle.dl_core.specs.Admission.{has_frames}
use Rattle.dl_core.specs.Noting.{NotesMessage}
use Rattle.dl_core.specs.Registering.{applied_now}
use Rattle.dl_model.specs.declared.registry.LevelChange.{LevelChange}
use Rattle.dl_registry.specs.Kept.{owed_change}
use Rattle.dl_channel_turns.specs.Levels.{answer_to, answered, registration_of, unless_refused}
use Rattle.dl_channel_turns.specs.Messages.{Serves}
use Rattle.dl_channel_turns.specs.State.{Side, side}
use Rattle.dl_channel_turns.specs.declared.registration.Registration.{Registration}
use Rattle.dl_channel_turns.proofs.ToldLevels.{answer_so, with_answer}
use Rattle.dl_channel_turns.proofs.serving.serve_one.Goals as goal

pub returns-in-Ok-clause-serves : goal.returns-in-Ok-clause-serves
returns-in-Ok-clause-serves g c =
    let told = g.F.Folder.told c.args.folder.now in
    let told_now = g.F.Folder.told c.user.new.folder in
    let events_now = g.J.Journal.events c.user.new.journal in
    let old : Side = side c.args.core.now c.args.outboxes.now (g.J.Journal.events c.args.journal.now) told in
    let between : Side = with_answer c.args.channel c.accepted-registered.result c.args.outboxes.now events_now told_now c.user.new.self in
    let new : Side = side c.answer.new.core c.answer.new.outboxes (g.J.Journal.events c.answer.new.journal) told_now in
    let other : has_frames c.args.msg ≡ false = sym c.has_frames_in.ensures ∙ c.if-has_frames_in.false in
    subst (λ (b : Bool). Serves b c.args.channel c.args.moment c.args.msg old new) (sym other) (
      between,
      record {
        notes = subst (λ (events : Option (List Event)). NotesMessage c.args.moment c.args.channel c.args.msg c.args.core.now c.user.new.self told told_now events events_now) c.reserve.ensures.events c.in-Ok.ensures.notes;
        registers = c.in-Ok.ensures.registers;
        outboxes = ap (λ (m : Option (List ℕ)). answered c.args.channel m c.args.outboxes.now)
            (ap (λ (r : Option Registration). answer_to r (Ok c.user.new.self.registry.registry) (owed_change c.user.new.self.registry)) (c.accepted-registered.ensures ∙ ap (unless_refused c.in-Ok.refusal) c.registration_in-asked.ensures)
            ∙ answer_so (registration_of c.args.msg) (applied_now c.args.core.now c.args.channel c.args.msg) c.args.core.now.registry c.user.new.self.registry c.in-Ok.refusal (owed_change c.user.new.self.registry)
            c.in-Ok.ensures.refusal c.in-Ok.ensures.registers);
        rest = c.in-Ok.ensures.rest;
      },
      c.answer.ensures.levels told_now,
    )
