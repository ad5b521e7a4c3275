use Rattle.std.proofs.Common.{◌≡◌, Bool, true, false, [], refl, sym, subst}
use Rattle.dl_script_model.specs.declared.step.LevelEvents.{LevelEvents}
use Rattle.dl_script_model.specs.declared.step.LevelEvents.TheVariants as levels
use Rattle.dl_script_model.specs.declared.step.Step.TheVariants as line
use Rattle.dl_script_model.specs.Marks.{LevelsWait}
use Rattle.dl_script_model.specs.Steps.{act_of, just}
use Rattle.dl_world.specs.Follows.{Doing}
use Rattle.dl_world.specs.declared.world.World.{World}
use Rattle.dl_world.proofs.OneMark.{sets_levels}
use Rattle.dl_world.proofs.world.World.set_levels.Goals as goal

by_line : (old : World) (now : LevelEvents) (later : Bool) → (now ≡ levels.Later → later ≡ true) → (now ≡ levels.Now → later ≡ false)
    → Doing (λ setting. act_of setting [] (line.Levels now)) old (record old { later = later })
by_line old levels.Later later waits goes = subst (λ (b : Bool). Doing (λ setting. just (LevelsWait true)) old (record old { later = b })) (sym (waits refl)) (sets_levels old true)
by_line old levels.Now later waits goes = subst (λ (b : Bool). Doing (λ setting. just (LevelsWait false)) old (record old { later = b })) (sym (goes refl)) (sets_levels old false)

pub returns-clause-does : goal.returns-clause-does
returns-clause-does c = by_line c.args.self.now c.args.levels c.eq-self.result (λ is. rw is at c.eq-self.ensures) (λ is. rw is at c.eq-self.ensures)
