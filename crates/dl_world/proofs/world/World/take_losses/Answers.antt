use Rattle.std.proofs.Common.{◌≡◌, ◌<◌, refl, ap, ◌∙◌, arith}
use Rattle.dl_events.specs.declared.event.Event.TheVariants as event
use Rattle.dl_script_model.specs.Marks.{moment}
use Rattle.dl_script_model.specs.Steps.{note_levels_now}
use Rattle.dl_world_calls.proofs.Acts.{on_ok}
use Rattle.dl_world.specs.Follows.{Doing}
use Rattle.dl_world.specs.declared.world.World.{World}
use Rattle.dl_core.proofs.LeftFiles.{leaves_alone}
use Rattle.dl_world.proofs.Telling.{does_note}
use Rattle.dl_world.proofs.Takes.{loses_of_nobody, loses_nothing, loses_some}
use Rattle.dl_world.proofs.world.World.take_losses.Goals as goal

pub returns-then-apps-app-clause-does : goal.returns-then-apps-app-clause-does
returns-then-apps-app-clause-does g c = loses_of_nobody c.args.self.now _ c.args.app (omega (arith, c.apps.ensures, c.if-apps-app.true))

pub returns-then-apps-app-clause-leaves : goal.returns-then-apps-app-clause-leaves
returns-then-apps-app-clause-leaves g c = leaves_alone _ _ _ refl

pub returns-then-count-eq0-clause-does : goal.returns-then-count-eq0-clause-does
returns-then-count-eq0-clause-does g c =
    let none : 0 ≡ c.pending-count.result = omega (arith, c.if-count-eq0.true) in
    loses_nothing c.args.self.now _ c.args.app (λ done is. none ∙ c.pending-count.ensures done is)

pub returns-then-count-eq0-clause-leaves : goal.returns-then-count-eq0-clause-leaves
returns-then-count-eq0-clause-leaves g c = leaves_alone _ _ _ refl

pub returns-in_err-note_levels-clause-leaves : goal.returns-in_err-note_levels-clause-leaves
returns-in_err-note_levels-clause-leaves g c = leaves_alone _ _ _ (ap (λ (w : World). w.core.trace) c.note_levels.ensures.rest)

pub returns-clause-does : goal.returns-clause-does
returns-clause-does g c =
    let old = c.args.self.now in
    let app = c.args.app in
    let count = c.pending-count.result in
    let some : 0 < count = omega (arith, c.if-count-eq0.false) in
    let made = λ (behind : Doing note_levels_now c.note_losses.new.self c.note_levels_now.new.self).
    loses_some old c.note_levels_now.new.self _ _ app count some c.pending-count.ensures
    (does_note (λ now. event.Lost app count (moment now)) old c.note_levels.new.self c.note_losses.new.self c.note_levels_now.new.self _ _
    c.in_ok-note_levels.ensures.does c.in_ok-note_losses.ensures.does behind) in
    on_ok c.note_levels_now.result _ _ made c.note_levels_now.ensures.does
