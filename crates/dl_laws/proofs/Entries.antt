-- What holds of each entry of a list.
use Rattle.std.proofs.Common.{◌≡◌, ℕ, zero, suc, List, [], ◌∷◌, drop, Option, Some, None, refl}
use Rattle.std.specs.Prelude.{map}
use Rattle.std.specs.List.{AllByRecursion, filter_map, cons_option}

pub all_drop : {A : Type 0} (P : A → Type 0) (n : ℕ) (xs : List A) → AllByRecursion P xs → AllByRecursion P (drop n xs)
all_drop P zero xs all = all
all_drop P (suc n) [] all = tt
all_drop P (suc n) (x ∷ xs) all = all_drop P n xs all.1

-- of each entry that a function makes
pub all_made : {A B : Type 0} (P : B → Type 0) (f : A → B) → ((x : A) → P (f x)) → (xs : List A) → AllByRecursion P (map f xs)
all_made P f each [] = tt
all_made P f each (x ∷ xs) = (each x, all_made P f each xs)

-- of what comes out of each
pub all_given : {A B : Type 0} (P : B → Type 0) (Q : A → Type 0) (f : A → Option B) → ((x : A) (y : B) → f x ≡ Some y → Q x → P y) → (xs : List A) → AllByRecursion Q xs →
    AllByRecursion P (filter_map f xs)
all_given P Q f each [] all = tt
all_given {B = B} P Q f each (x ∷ xs) all = by_answer (f x) (each x) (all_given P Q f each xs all.1) where
  by_answer : (o : Option B) → ((y : B) → o ≡ Some y → Q x → P y) → AllByRecursion P (filter_map f xs) → AllByRecursion P (cons_option o (filter_map f xs))
  by_answer None each later = later
  by_answer (Some y) each later = (each y refl all.0, later)
