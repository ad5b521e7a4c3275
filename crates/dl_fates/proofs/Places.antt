-- Lines and steps from a place on.
use Rattle.std.proofs.Common.{◌≡◌, ℕ, suc, ◌+◌, ◌<◌, List, [], ◌∷◌, ◌++◌, get_or, drop, take, length, refl, sym, ap, ◌∙◌, add-one, arith, inl, inr}
use Rattle.std.specs.Prelude.{min, reverse, Option, Some, None}
use Rattle.std.specs.Option.{option_map_or}
use Rattle.std.proofs.lemmas.Bool.{cases_lt}
use Rattle.std.proofs.Math.Seq.{drop-cons, drop-length}
use Rattle.std.proofs.lemmas.List.{take_more}
use Rattle.dl_script_model.specs.declared.step.Step.{Step}
use Rattle.dl_fates.specs.Lines.{placed}

no_steps : (numbers : List ℕ) → placed numbers [] ≡ []
no_steps [] = refl
no_steps (number ∷ numbers) = refl

-- behind the shorter one
pub none_left : (numbers : List ℕ) (steps : List Step) → placed (drop (min (length numbers) (length steps)) numbers) (drop (min (length numbers) (length steps)) steps) ≡ []
none_left numbers steps = elim (cases_lt (length numbers) (length steps)) [
  | inl lt ↦
      let all : min (length numbers) (length steps) ≡ length numbers = omega (arith, lt) in
      ap (λ (ns : List ℕ). placed ns (drop (min (length numbers) (length steps)) steps)) (ap (λ (n : ℕ). drop n numbers) all ∙ drop-length numbers)
  | inr le ↦
      let all : min (length numbers) (length steps) ≡ length steps = omega (arith, le) in
      ap (λ (ss : List Step). placed (drop (min (length numbers) (length steps)) numbers) ss) (ap (λ (n : ℕ). drop n steps) all ∙ drop-length steps)
      ∙ no_steps (drop (min (length numbers) (length steps)) numbers)
]

from_here : {A : Type 0} (xs : List A) (i : ℕ) (x d : A) → i < length xs → x ≡ get_or xs i d → drop i xs ≡ x ∷ drop (i + 1) xs
from_here {A} xs i x d within is = rw add-one (drop-cons xs i d within ∙ ap (λ (y : A). y ∷ drop (suc i) xs) (sym is))

pub one_more : {A : Type 0} (xs : List A) (i : ℕ) (x : A) → i < length xs → x ≡ get_or xs i x → take (i + 1) xs ≡ take i xs ++ x ∷ []
one_more {A} xs i x within is = take_more xs i x within ∙ ap (λ (y : A). take i xs ++ y ∷ []) (sym is)

-- one place further to the front
pub one_back : (numbers : List ℕ) (steps : List Step) (i line : ℕ) (step : Step) → i < length numbers → i < length steps → line ≡ get_or numbers i 0 → step ≡ get_or steps i step →
    placed (drop i numbers) (drop i steps) ≡ record { line = line; step = step } ∷ placed (drop (i + 1) numbers) (drop (i + 1) steps)
one_back numbers steps i line step in_numbers in_steps line_is step_is =
    ap (λ (ns : List ℕ). placed ns (drop i steps)) (from_here numbers i line 0 in_numbers line_is)
    ∙ ap (λ (ss : List Step). placed (line ∷ drop (i + 1) numbers) ss) (from_here steps i step step in_steps step_is)

pub one_reversed : {A : Type 0} (one : Option A) → reverse (option_map_or (λ (x : A). x ∷ []) one []) ≡ option_map_or (λ (x : A). x ∷ []) one []
one_reversed None = refl
one_reversed (Some x) = refl
