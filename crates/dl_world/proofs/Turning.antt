-- Calls in a row: what each of them comes to makes what they come to in turn.
use Rattle.std.proofs.Common.{◌≡◌, ℕ, ◌+◌, ◌-◌, ◌≤◌, List, map, ap, subst, ◌∙◌, arith}
use Rattle.std.specs.List.{range_with_len}
use Rattle.std.proofs.lemmas.List.FromFn.{map-range_with_len_more}
use Rattle.dl_script_model.specs.Steps.{Act, in_sequence}
use Rattle.dl_outside.specs.Told.{FolderTold}
use Rattle.dl_script_model.proofs.Marks.{in_sequence-one}
use Rattle.dl_world.specs.Follows.{Deed, Does}
use Rattle.dl_world.specs.declared.world.World.{World}
use Rattle.dl_world.proofs.Composing.{both, does_both}
use Rattle.dl_world.proofs.Deeds.{does_as, does_nothing}

-- ---- acts

-- ---- deeds of numbers

-- the deeds of so many numbers, from this one on, in turn
abbrev pub from : ℕ → ℕ → (ℕ → Deed) → Deed
from first count deed setting answers done = in_sequence (map (λ n. deed n setting answers) (range_with_len first count)) done

pub does_first : (first : ℕ) (deed : ℕ → Deed) (world : World) (told : FolderTold) → Does (from first 0 deed) world world told told
does_first first deed world told = does_nothing world told

-- one number more
pub does_next : (first count n : ℕ) (deed : ℕ → Deed) (old mid new : World) (told told_mid told_now : FolderTold) → first + count ≡ n
    → Does (from first count deed) old mid told told_mid → Does (deed n) mid new told_mid told_now → Does (from first (count + 1) deed) old new told told_now
does_next first count n deed old mid new told told_mid told_now number before one =
    does_as (both (from first count deed) (deed n)) (from first (count + 1) deed) old new told told_now
    (λ run done answers after.
    let act = λ (k : ℕ). deed k run.setting answers in
    ap (λ (acts : List Act). in_sequence acts done) (map-range_with_len_more act first count n number)
    ∙ in_sequence-one (map act (range_with_len first count)) (act n) done)
    (does_both (from first count deed) (deed n) old mid new told told_mid told_now before one)

-- the same at the next number of a loop that began at this one
pub does_loop : (first k : ℕ) (deed : ℕ → Deed) (old mid new : World) (told told_mid told_now : FolderTold) → first ≤ k
    → Does (from first (k - first) deed) old mid told told_mid → Does (deed k) mid new told_mid told_now → Does (from first (k + 1 - first) deed) old new told told_now
does_loop first k deed old mid new told told_mid told_now some before one =
    let count : (k - first) + 1 ≡ k + 1 - first = omega (arith, some) in
    subst (λ (c : ℕ). Does (from first c deed) old new told told_now) count
    (does_next first (k - first) k deed old mid new told told_mid told_now (omega (arith, some)) before one)
