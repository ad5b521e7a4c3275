-- A net behind a rest, and where it did not rest; and what moved in one of three steps.
use Rattle.std.proofs.Common.{◌≡◌, Bool, true, false, refl, ap, ◌∙◌}
use Rattle.std.specs.Prelude.{◌||◌}

-- it tells the same
pub rested_so : {N T : Type 0} (told : N → T) (moved : Bool) (old new : N) → (moved ≡ false → told new ≡ told old) → (moved ≡ true → new ≡ old) → told new ≡ told old
rested_so told true old new rests leaves = ap told (leaves refl)
rested_so told false old new rests leaves = rests refl

pub all_three : {a b c x y z : Bool} → a ≡ x → b ≡ y → c ≡ z → (a || b || c) ≡ (x || y || z)
all_three {a} {b} {c} {x} {y} {z} first second third =
    ap (λ (m : Bool). m || b || c) first ∙ ap (λ (m : Bool). x || m || c) second ∙ ap (λ (m : Bool). x || y || m) third
