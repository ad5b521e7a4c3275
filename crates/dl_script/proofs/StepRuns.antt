-- Steps of which each may follow those before it.
use Rattle.std.proofs.Common.{◌≡◌, ℕ, ◌+◌, ◌≤◌, List, [], ◌∷◌, ◌++◌, length, refl, sym, subst, ◌∙◌, arith, length-append}
use Rattle.std.specs.List.{AllByRecursion}
use Rattle.dl_script_model.specs.declared.step.Step.{Step}
use Rattle.dl_script.specs.Earlier.{Declared, noted}
use Rattle.dl_script.specs.Spelled.{MayFollow, step_claim}
use Rattle.dl_script.specs.Playable.{IsInBounds}

-- what is declared after steps
abbrev pub after : Declared → List Step → Declared
after known [] = known
after known (s ∷ steps) = after (noted known (step_claim s)) steps

-- steps that may follow what is declared, what is declared after them, and how many they are at most
pub record Goes (known : Declared) (steps : List Step) (later : Declared) (count : ℕ) : Type 0 where
  pub follow : MayFollow step_claim known steps
  pub leads : after known steps ≡ later
  pub bounds : AllByRecursion IsInBounds steps
  pub few : length steps ≤ count

follow_more : (known : Declared) (xs ys : List Step) → MayFollow step_claim known xs → MayFollow step_claim (after known xs) ys → MayFollow step_claim known (xs ++ ys)
follow_more known [] ys may more = more
follow_more known (x ∷ xs) ys may more = (may.0, follow_more (noted known (step_claim x)) xs ys may.1 more)

after_more : (known : Declared) (xs ys : List Step) → after known (xs ++ ys) ≡ after (after known xs) ys
after_more known [] ys = refl
after_more known (x ∷ xs) ys = after_more (noted known (step_claim x)) xs ys

bounds_more : (xs ys : List Step) → AllByRecursion IsInBounds xs → AllByRecursion IsInBounds ys → AllByRecursion IsInBounds (xs ++ ys)
bounds_more [] ys bounds more = more
bounds_more (x ∷ xs) ys bounds more = (bounds.0, bounds_more xs ys bounds.1 more)

-- steps behind others
pub behind : (known next later : Declared) (xs ys : List Step) (m n : ℕ) → Goes known xs next m → Goes next ys later n → Goes known (xs ++ ys) later (m + n)
behind known next later xs ys m n first second = record {
  follow = follow_more known xs ys first.follow (subst (λ (k : Declared). MayFollow step_claim k ys) (sym first.leads) second.follow);
  leads = after_more known xs ys ∙ subst (λ (k : Declared). after k ys ≡ later) (sym first.leads) second.leads;
  bounds = bounds_more xs ys first.bounds second.bounds;
  few = omega (arith, first.few, second.few, length-append xs ys);
}

-- the same said in other words
pub restated : (known later other : Declared) (steps : List Step) (m n : ℕ) → later ≡ other → m ≤ n → Goes known steps later m → Goes known steps other n
restated known later other steps m n same le goes = record {
  follow = goes.follow;
  leads = goes.leads ∙ same;
  bounds = goes.bounds;
  few = omega (arith, goes.few);
}
