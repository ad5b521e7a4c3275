-- A measure of records, added up over the writers.
use Rattle.std.proofs.Common.{◌≡◌, ℕ, zero, suc, ◌+◌, ◌<◌, ◌≤◌, Bool, true, false, cond, eqb, List, [], ◌∷◌, ◌++◌, refl, sym, ap, ◌∙◌, arith, inl, inr}
use Rattle.std.specs.Prelude.{map}
use Rattle.std.specs.List.{filter, flat_map, range_with_len, AllByRecursion}
use Rattle.std.proofs.lemmas.Bool.{eq-eqb, ne_eqb, cases_eq}

unfoldable pub sums : (ℕ → ℕ) → List ℕ → ℕ
sums f [] = 0
sums f (w ∷ ws) = f w + sums f ws

pub sums_same : (f g : ℕ → ℕ) → ((w : ℕ) → f w ≡ g w) → (ws : List ℕ) → sums f ws ≡ sums g ws
unfolding sums
sums_same f g same [] = refl
sums_same f g same (w ∷ ws) = omega (arith, same w, sums_same f g same ws)

pub sums_zero : (f : ℕ → ℕ) → ((w : ℕ) → f w ≡ 0) → (ws : List ℕ) → sums f ws ≡ 0
unfolding sums
sums_zero f none [] = refl
sums_zero f none (w ∷ ws) = omega (arith, none w, sums_zero f none ws)

pub sums_add : (f g h : ℕ → ℕ) → ((w : ℕ) → f w ≡ g w + h w) → (ws : List ℕ) → sums f ws ≡ sums g ws + sums h ws
unfolding sums
sums_add f g h same [] = refl
sums_add f g h same (w ∷ ws) = omega (arith, same w, sums_add f g h same ws)

-- over numbers from one on, what only one of them gives
none_of : (v k n a : ℕ) → v < a → sums (λ w. cond (eqb v w) k 0) (range_with_len a n) ≡ 0
unfolding sums
none_of v k zero a lt = refl
none_of v k (suc n) a lt =
    let apart : ◌≡◌ {A = ℕ} (cond (eqb v a) k 0) 0 = ap (λ (b : Bool). cond b k 0) (ne_eqb v a (λ same. omega (arith, same, lt))) in
    omega (arith, apart, none_of v k n (a + 1) (omega arith))

pub one_of : (v k n a : ℕ) → a ≤ v → v < a + n → sums (λ w. cond (eqb v w) k 0) (range_with_len a n) ≡ k
unfolding sums
one_of v k zero a le lt = absurd (omega arith)
one_of v k (suc n) a le lt = elim (cases_eq v a) [
  | inl same ↦
      let here : cond (eqb v a) k 0 ≡ k = ap (λ (b : Bool). cond b k 0) (eq-eqb v a same) in
      omega (arith, here, none_of v k n (a + 1) (omega arith))
  | inr apart ↦
      let here : ◌≡◌ {A = ℕ} (cond (eqb v a) k 0) 0 = ap (λ (b : Bool). cond b k 0) (ne_eqb v a apart) in
      let above : a + 1 ≤ v = omega (arith, apart) in
      omega (arith, here, one_of v k n (a + 1) above (omega arith))
]

-- ---- of things that have a number each

module _ {X : Type 0} (number : X → ℕ) (M : List X → ℕ) (nothing : M [] ≡ 0) (adds : (xs ys : List X) → M (xs ++ ys) ≡ M xs + M ys) where
  abbrev pub own : ℕ → List X → List X
  own w xs = filter (λ x. eqb (number x) w) xs

  pub flat_sum : (f : ℕ → List X) (ws : List ℕ) → M (flat_map (λ (xs : List X). xs) (map f ws)) ≡ sums (λ w. M (f w)) ws
  unfolding sums
  flat_sum f [] = nothing
  flat_sum f (w ∷ ws) = omega (arith, adds (f w) (flat_map (λ (xs : List X). xs) (map f ws)), flat_sum f ws)

  own_more : (w : ℕ) (x : X) (xs : List X) → M (own w (x ∷ xs)) ≡ cond (eqb (number x) w) (M (x ∷ [])) 0 + M (own w xs)
  own_more w x xs = by_test (eqb (number x) w) where
    by_test : (b : Bool) → M (cond b (x ∷ own w xs) (own w xs)) ≡ cond b (M (x ∷ [])) 0 + M (own w xs)
    by_test true = adds (x ∷ []) (own w xs)
    by_test false = omega arith

  pub split : (n a : ℕ) (xs : List X) → AllByRecursion (λ x. (a ≤ number x) × (number x < a + n)) xs → sums (λ w. M (own w xs)) (range_with_len a n) ≡ M xs
  split n a [] all = sums_zero (λ w. M []) (λ w. nothing) (range_with_len a n) ∙ sym nothing
  split n a (x ∷ xs) all =
      let parts = sums_add (λ w. M (own w (x ∷ xs))) (λ w. cond (eqb (number x) w) (M (x ∷ [])) 0) (λ w. M (own w xs)) (λ w. own_more w x xs) (range_with_len a n) in
      let first = one_of (number x) (M (x ∷ [])) n a all.0.0 all.0.1 in
      omega (arith, parts, first, split n a xs all.1, adds (x ∷ []) xs)

-- what holds of the own ones of every number
pub all_owners : {X : Type 0} (number : X → ℕ) (P : ℕ → X → Type 0) (xs : List X) → ((w : ℕ) → AllByRecursion (P w) (filter (λ x. eqb (number x) w) xs)) → AllByRecursion (λ x. P (number x) x) xs
all_owners number P [] all = tt
all_owners {X = X} number P (x ∷ xs) all = (first (eqb (number x) (number x)) (eq-eqb (number x) (number x) refl) (all (number x)), all_owners number P xs (λ w. later w (eqb (number x) w) (all w))) where
  first : (b : Bool) → b ≡ true → AllByRecursion (P (number x)) (cond b (x ∷ filter (λ y. eqb (number y) (number x)) xs) (filter (λ y. eqb (number y) (number x)) xs)) → P (number x) x
  first true e own = own.0
  first false e own = absurd cc

  later : (w : ℕ) (b : Bool) → AllByRecursion (P w) (cond b (x ∷ filter (λ y. eqb (number y) w) xs) (filter (λ y. eqb (number y) w) xs)) → AllByRecursion (P w) (filter (λ y. eqb (number y) w) xs)
  later w true own = own.1
  later w false own = own
