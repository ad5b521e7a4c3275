-- Deeds on an application by its id.
use Rattle.std.proofs.Common.{◌≡◌, ℕ, ◌<◌, ◌≤◌, ◌⊎◌, inl, inr, Bool, true, false, List, length, Option, Some, None, refl, sym, ap, ◌∙◌, arith}
use Rattle.std.specs.Prelude.{nat_lt}
use Rattle.std.proofs.lemmas.List.{length-map}
use Rattle.dl_model.specs.Setting.{Setting}
use Rattle.dl_script_model.specs.Marks.{Mark, number_of}
use Rattle.dl_script_model.specs.Steps.{Act, for_some, on_app, take_injection}
use Rattle.dl_world_calls.specs.State.{numbered}
use Rattle.dl_world_calls.specs.Follows.{line_of}
use Rattle.dl_world_calls.proofs.Declaring.{number_is}
use Rattle.dl_core.specs.Follows.{Run}
use Rattle.dl_core.specs.State.{Core}
use Rattle.dl_outside.specs.Told.{FolderTold}
use Rattle.dl_world.specs.Follows.{IsAfter, Does, Doing}
use Rattle.dl_world.specs.declared.world.World.{World}
use Rattle.dl_world.proofs.Deeds.{does_as, does_none}
use Rattle.dl_world.proofs.Doings.{doing_by}

number_in : (run : Run) (done : List Mark) (world : World) (apid : List ℕ) → IsAfter run done world → number_of apid done ≡ numbered world.calls apid
number_in run done world apid after = sym (number_is done world.calls apid after.so_far.calls_so.apps_are)

-- the application of this id
pub does_on_app : (apid : List ℕ) (act : Setting → ℕ → Act) (app : ℕ) (old new : World) (told told_now : FolderTold) → numbered old.calls apid ≡ Some app
    → Does (λ setting answers. act setting app) old new told told_now → Does (λ setting answers. on_app apid (act setting)) old new told told_now
does_on_app apid act app old new told told_now is does =
    does_as (λ setting answers. act setting app) (λ setting answers. on_app apid (act setting)) old new told told_now
    (λ run done answers after. ap (λ (o : Option ℕ). for_some o (act run.setting) done) (number_in run done old apid after ∙ is)) does

-- nobody has this id
pub does_on_nobody : (apid : List ℕ) (act : Setting → ℕ → Act) (world : World) (told : FolderTold) → numbered world.calls apid ≡ None
    → Does (λ setting answers. on_app apid (act setting)) world world told told
does_on_nobody apid act world told is =
    does_none (λ setting answers. on_app apid (act setting)) world told
    (λ run done answers after. ap (λ (o : Option ℕ). for_some o (act run.setting) done) (number_in run done world apid after ∙ is))

-- ---- an injection of the application of this id

below_or_not : (n : ℕ) → (n < 16) ⊎ (16 ≤ n)
below_or_not n = by_test (nat_lt n 16) refl where
  by_test : (b : Bool) → nat_lt n 16 ≡ b → (n < 16) ⊎ (16 ≤ n)
  by_test true e = inl (grind (arith, e))
  by_test false e = inr (grind (arith, e))

pub does_injection : (apid : List ℕ) (app : ℕ) (old new : World) → numbered old.calls apid ≡ Some app → app < length old.calls.apps → new.core ≡ old.core
    → (app < 16 → Doing (λ setting. take_injection app) old new) → Doing (λ setting. on_app apid take_injection) old new
does_injection apid app old new is there same does = by_limit (below_or_not app) where
  by_limit : (app < 16) ⊎ (16 ≤ app) → Doing (λ setting. on_app apid take_injection) old new
  by_limit (inl below) = λ told. does_on_app apid (λ setting. take_injection) app old new told told is (does below told)
  by_limit (inr above) =
      doing_by (λ setting. on_app apid take_injection) old new (ap (λ (c : Core). c.trace) same)
      (λ run done after is_run. absurd (let many : length old.calls.apps ≤ 16 = (let few = after.so_far.few_so in let lines = ap length after.so_far.calls_so.apps_are in omega (arith, few, lines, length-map old.calls.apps line_of)) in omega (arith, many, above, there)))
