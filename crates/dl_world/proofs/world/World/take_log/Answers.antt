use Rattle.std.proofs.Common.{◌≡◌, ◌<◌, length, Some, refl, ap, sym, ◌∙◌, arith}
use Rattle.dl_script_model.specs.Steps.{note_levels_now}
use Rattle.dl_world_calls.specs.State.{next_held}
use Rattle.dl_world_calls.proofs.Acts.{on_ok}
use Rattle.dl_world.specs.Follows.{Doing, event_held}
use Rattle.dl_world.specs.declared.world.World.{World}
use Rattle.dl_core.proofs.LeftFiles.{leaves_alone}
use Rattle.dl_world.proofs.Telling.{does_note}
use Rattle.dl_world.proofs.Takes.{none_held, some_held, takes_of_nobody, takes_none, takes_next}
use Rattle.dl_world.proofs.world.World.take_log.Goals.{then-apps-app-via-then-apps-app, then-apps-app-via-else-apps-app+then-not-has_next}
use Rattle.dl_world.proofs.world.World.take_log.Goals as goal

pub returns-then-apps-app-clause-does : goal.returns-then-apps-app-clause-does
returns-then-apps-app-clause-does g c = elim c.then-apps-app.branch [
  | then-apps-app-via-then-apps-app w ↦ takes_of_nobody c.args.self.now _ c.args.app (omega (arith, c.apps.ensures, w.if-apps-app.true))
  | then-apps-app-via-else-apps-app+then-not-has_next w ↦
      takes_none c.args.self.now _ c.args.app (omega (arith, c.apps.ensures, w.if-apps-app.false))
      (none_held (next_held c.args.self.now.calls c.args.app) (sym w.has_next.ensures ∙ w.if-not-has_next.true))
]

pub returns-then-apps-app-clause-leaves : goal.returns-then-apps-app-clause-leaves
returns-then-apps-app-clause-leaves g c = leaves_alone _ _ _ refl

pub returns-in_err-note_levels-clause-leaves : goal.returns-in_err-note_levels-clause-leaves
returns-in_err-note_levels-clause-leaves g c = leaves_alone _ _ _ (ap (λ (w : World). w.core.trace) c.note_levels.ensures.rest)

pub returns-clause-does : goal.returns-clause-does
returns-clause-does g c =
    let old = c.args.self.now in
    let app = c.args.app in
    let below : app < length old.calls.apps = omega (arith, c.apps.ensures, c.if-apps-app.false) in
    let next = some_held (next_held old.calls app) (sym c.has_next.ensures ∙ c.if-not-has_next.false) in
    let what = next.0 in
    let still : next_held c.note_levels.new.self.calls app ≡ Some what = ap (λ (w : World). next_held w.calls app) c.note_levels.ensures.rest ∙ next.1 in
    let made = λ (behind : Doing note_levels_now c.note_next.new.self c.note_levels_now.new.self).
    takes_next old c.note_levels_now.new.self _ _ app what below next.1
    (does_note (event_held app what) old c.note_levels.new.self c.note_next.new.self c.note_levels_now.new.self _ _
    c.in_ok-note_levels.ensures.does (c.in_ok-note_next.ensures.does what still) behind) in
    on_ok c.note_levels_now.result _ _ made c.note_levels_now.ensures.does
