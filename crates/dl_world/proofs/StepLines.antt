-- A line of a script is what its kind says.
use Rattle.std.proofs.Common.{◌≡◌, [], sym, subst}
use Rattle.std.specs.Prelude.{Result, OnOk}
use Rattle.dl_script_model.specs.declared.step.LevelEvents.{LevelEvents}
use Rattle.dl_script_model.specs.declared.step.LevelEvents.TheVariants as levels
use Rattle.dl_script_model.specs.declared.step.Step.{Step}
use Rattle.dl_script_model.specs.declared.step.Step.TheVariants as line
use Rattle.dl_script_model.specs.Steps.{act_of}
use Rattle.dl_outside.specs.Told.{FolderTold}
use Rattle.dl_world.specs.Follows.{Does}
use Rattle.dl_world.specs.declared.world.World.{World}

pub of_line : {T E : Type 0} (r : Result T E) {step now : Step} → step ≡ now → (old new : World) (told told_now : FolderTold)
    → OnOk r (Does (λ setting answers. act_of setting answers now) old new told told_now) → OnOk r (Does (λ setting answers. act_of setting answers step) old new told told_now)
of_line r is old new told told_now does = subst (λ (s : Step). OnOk r (Does (λ setting answers. act_of setting answers s) old new told told_now)) (sym is) does

-- whatever the folder answers
pub levels_line : (now : LevelEvents) (old new : World) (told : FolderTold) → Does (λ setting answers. act_of setting [] (line.Levels now)) old new told told
    → Does (λ setting answers. act_of setting answers (line.Levels now)) old new told told
levels_line levels.Later old new told does = does
levels_line levels.Now old new told does = does
