-- How many injections wait, after the marks of a run.
use Rattle.std.specs.Prelude.{◌≡◌, ℕ, ◌≤◌, ◌<◌, Bool, true, false, List, ◌++◌, length, count_by, slice_index}
use Rattle.dl_script_model.specs.Marks.{Mark, Injected, Handed, injections, is_injected, is_handed}
use Rattle.dl_script_model.specs.Steps.{Act}

-- each count is that of the marks
pub record AreAfter (done : List Mark) (waiting : List ℕ) : Type 0 where
  pub count : length waiting ≡ 16
  pub each : (app : ℕ) → app < 16 → injections app done ≡ slice_index waiting app
  pub at_most : (app : ℕ) → count_by (is_handed app) done ≤ count_by (is_injected app) done

-- the call is this act: whatever marks came before, the counts are then those after the act
abbrev pub Counts : Act → List ℕ → List ℕ → Type 0
Counts act old new = (done : List Mark) → AreAfter done old → AreAfter (done ++ act done) new

-- a mark that is no injection, neither one that came nor one that was taken
abbrev pub is_no_injection : Mark → Bool
is_no_injection (Injected app) = false
is_no_injection (Handed app) = false
is_no_injection _ = true
