-- The lines of a script in turn, and then the end of its run.
use Rattle.std.proofs.Common.{◌≡◌, ℕ, ◌+◌, ◌<◌, ◌≤◌, get_or, List, [], ◌∷◌, ◌++◌, length, map, take, sym, ap, subst, ◌∙◌}
use Rattle.std.specs.Prelude.{slice_get, Some}
use Rattle.std.proofs.lemmas.List.{map-append, take_all, take_more}
use Rattle.std.proofs.lemmas.Option.{slice_get-get_or}
use Rattle.dl_script_model.specs.declared.step.Step.{Step}
use Rattle.dl_script_model.specs.Steps.{Act, in_sequence, act_of, end_of}
use Rattle.dl_outside.specs.Told.{FolderTold}
use Rattle.dl_script_model.proofs.Marks.{in_sequence-one}
use Rattle.dl_world.specs.Follows.{Deed, Does}
use Rattle.dl_world.specs.declared.world.World.{World}
use Rattle.dl_world.proofs.Composing.{both, does_both}
use Rattle.dl_world.proofs.Deeds.{does_as, does_nothing}

-- what lines come to
abbrev pub lines : List Step → Deed
lines steps setting answers done = in_sequence (map (act_of setting answers) steps) done

pub no_lines : (world : World) (told : FolderTold) → Does (lines []) world world told told
no_lines world told = does_nothing world told

-- one line more
pub one_line : (steps : List Step) (step : Step) (old mid new : World) (told told_mid told_now : FolderTold)
    → Does (lines steps) old mid told told_mid → Does (λ setting answers. act_of setting answers step) mid new told_mid told_now → Does (lines (steps ++ step ∷ [])) old new told told_now
one_line steps step old mid new told told_mid told_now before one =
    does_as (both (lines steps) (λ setting answers. act_of setting answers step)) (lines (steps ++ step ∷ [])) old new told told_now
    (λ run done answers after.
    ap (λ (acts : List Act). in_sequence acts done) (map-append (act_of run.setting answers) steps (step ∷ []))
    ∙ in_sequence-one (map (act_of run.setting answers) steps) (act_of run.setting answers step) done)
    (does_both (lines steps) (λ setting answers. act_of setting answers step) old mid new told told_mid told_now before one)

-- all lines, and the end
abbrev pub whole : List Step → Deed
whole steps setting answers done = in_sequence (map (act_of setting answers) steps ++ end_of setting ∷ []) done

pub and_end : (steps : List Step) (old mid new : World) (told told_mid told_now : FolderTold)
    → Does (lines steps) old mid told told_mid → Does (λ setting answers. end_of setting) mid new told_mid told_now → Does (whole steps) old new told told_now
and_end steps old mid new told told_mid told_now before one =
    does_as (both (lines steps) (λ setting answers. end_of setting)) (whole steps) old new told told_now
    (λ run done answers after. in_sequence-one (map (act_of run.setting answers) steps) (end_of run.setting) done)
    (does_both (lines steps) (λ setting answers. end_of setting) old mid new told told_mid told_now before one)

-- ---- the line at a place

pub at_place : (xs steps : List Step) (place : ℕ) (step : Step) → xs ≡ steps → place < length xs → step ≡ get_or xs place step → slice_get steps place ≡ Some step
at_place xs steps place step same below is = subst (λ (ss : List Step). slice_get ss place ≡ Some step) same (slice_get-get_or xs place step below ∙ ap Some (sym is))

pub with_place : (xs steps : List Step) (place : ℕ) (step : Step) → xs ≡ steps → place < length xs → step ≡ get_or xs place step → take place steps ++ step ∷ [] ≡ take (place + 1) steps
with_place xs steps place step same below is =
    subst (λ (ss : List Step). take place ss ++ step ∷ [] ≡ take (place + 1) ss) same (sym (take_more xs place step below ∙ ap (λ (s : Step). take place xs ++ s ∷ []) (sym is)))

pub all_taken : (xs steps : List Step) (place : ℕ) → xs ≡ steps → length xs ≤ place → take place steps ≡ steps
all_taken xs steps place same over = subst (λ (ss : List Step). take place ss ≡ ss) same (take_all place xs over)
