-- How often a number stands in a list, and whether all numbers differ.
use Rattle.std.proofs.Common.{◌≡◌, ℕ, ◌+◌, ◌-◌, ◌≤◌, ◌==◌, Bool, true, false, cond, eqb, List, [], ◌∷◌, ◌++◌, map, refl, sym, ap, ◌∙◌, subst, eq-eqb, ne_eqb, arith}
use Rattle.std.specs.Prelude.{All, nat_eq}
use Rattle.std.specs.List.{filter, flat_map, AllByRecursion, IsDistinct}
use Rattle.std.proofs.lemmas.Bool.{eqb-true, eqb-false}
use Rattle.std.proofs.lemmas.List.{map-append}
use Rattle.std.proofs.lemmas.List.Elements.{All-nil, All-cons, All-head, All-tail}
use Rattle.dl_cells.specs.Views.{bit, times, total}
use Rattle.dl_cells.proofs.Totals.{times-append}

-- ---- all differ

-- what isn't there is equal to none
none_equal : (x : ℕ) (xs : List ℕ) → times x xs ≡ 0 → AllByRecursion (λ y. nat_eq x y ≡ false) xs
none_equal x [] none = tt
none_equal x (y ∷ xs) none = (
  ne_eqb x y (λ same. let here : bit (eqb y x) ≡ 1 = ap bit (eq-eqb y x (sym same)) in omega (arith, here, none)),
  none_equal x xs (omega (arith, none)),
)

equal_none : (x : ℕ) (xs : List ℕ) → AllByRecursion (λ y. nat_eq x y ≡ false) xs → times x xs ≡ 0
equal_none x [] all = refl
equal_none x (y ∷ xs) all =
    let here : bit (eqb y x) ≡ 0 = ap bit (ne_eqb y x (λ same. eqb-false x y all.0 (sym same))) in
    let rest = equal_none x xs all.1 in
    omega (arith, here, rest)

-- numbers that stand there once at most differ
pub differ : (xs : List ℕ) → ((n : ℕ) → times n xs ≤ 1) → IsDistinct nat_eq xs
unfolding IsDistinct
differ [] once = tt
differ (x ∷ xs) once =
    let here : bit (eqb x x) ≡ 1 = ap bit (eq-eqb x x refl) in
    let first = once x in (
      none_equal x xs (omega (arith, here, first)),
      differ xs (λ n. let all = once n in omega (arith, all)),
    )

-- and those that differ do
pub once_there : (xs : List ℕ) → IsDistinct nat_eq xs → (n : ℕ) → times n xs ≤ 1
unfolding IsDistinct
once_there [] apart n = omega arith
once_there (x ∷ xs) apart n = by_test (eqb x n) refl (once_there xs apart.1 n) where
  by_test : (b : Bool) → eqb x n ≡ b → times n xs ≤ 1 → bit b + times n xs ≤ 1
  by_test true is rest =
      let none : times n xs ≡ 0 = subst (λ (k : ℕ). times k xs ≡ 0) (eqb-true x n is) (equal_none x xs apart.0) in
      omega (arith, none)
  by_test false is rest = omega (arith, rest)

-- ---- of a list that is made of another

pub times-filter : (p : ℕ → Bool) (n : ℕ) (xs : List ℕ) → times n (filter p xs) ≤ times n xs
times-filter p n [] = omega arith
times-filter p n (x ∷ xs) = by_test (times-filter p n xs) (p x) where
  by_test : times n (filter p xs) ≤ times n xs → (b : Bool) → times n (cond b (x ∷ filter p xs) (filter p xs)) ≤ bit (x == n) + times n xs
  by_test rest true = omega (arith, rest)
  by_test rest false = omega (arith, rest)

-- numbers that are moved by as much
pub times-moved : (by p : ℕ) (xs : List ℕ) → times p (map (λ n. by + n) xs) ≤ times (p - by) xs
times-moved by p [] = omega arith
times-moved by p (x ∷ xs) = by_test (eqb (by + x) p) refl (times-moved by p xs) where
  by_test : (b : Bool) → eqb (by + x) p ≡ b → times p (map (λ n. by + n) xs) ≤ times (p - by) xs → bit b + times p (map (λ n. by + n) xs) ≤ bit (x == p - by) + times (p - by) xs
  by_test true is rest =
      let same = eqb-true (by + x) p is in
      let here : bit (eqb x (p - by)) ≡ 1 = ap bit (eq-eqb x (p - by) (omega (arith, same))) in
      omega (arith, here, rest)
  by_test false is rest = omega (arith, rest)

-- ---- sums

module _ {V : Type 0} where
  -- those that pass a test add up to no more
  pub total-filter : (f : V → ℕ) (p : V → Bool) (xs : List V) → total f (filter p xs) ≤ total f xs
  total-filter f p [] = omega arith
  total-filter f p (x ∷ xs) = by_test (total-filter f p xs) (p x) where
    by_test : total f (filter p xs) ≤ total f xs → (b : Bool) → total f (cond b (x ∷ filter p xs) (filter p xs)) ≤ f x + total f xs
    by_test rest true = omega (arith, rest)
    by_test rest false = omega (arith, rest)

  -- and to all where the others have nothing
  pub total-passing : (f : V → ℕ) (p : V → Bool) (xs : List V) → All (λ x. p x ≡ false → f x ≡ 0) xs → total f (filter p xs) ≡ total f xs
  total-passing f p [] none = refl
  total-passing f p (x ∷ xs) none = by_test (total-passing f p xs (All-tail (λ x. p x ≡ false → f x ≡ 0) x xs none)) (p x) refl where
    by_test : total f (filter p xs) ≡ total f xs → (b : Bool) → p x ≡ b → total f (cond b (x ∷ filter p xs) (filter p xs)) ≡ f x + total f xs
    by_test rest true is = ap (λ n. f x + n) rest
    by_test rest false is = let here = All-head (λ x. p x ≡ false → f x ≡ 0) x xs none is in omega (arith, here, rest)

  pub total-below : (f g : V → ℕ) (xs : List V) → All (λ x. f x ≤ g x) xs → total f xs ≤ total g xs
  total-below f g [] below = omega arith
  total-below f g (x ∷ xs) below =
      let here = All-head (λ x. f x ≤ g x) x xs below in
      let rest = total-below f g xs (All-tail (λ x. f x ≤ g x) x xs below) in
      omega (arith, here, rest)

  -- each part is at most the sum
  pub part_below : (f : V → ℕ) (xs : List V) → All (λ x. f x ≤ total f xs) xs
  part_below f [] = All-nil (λ x. f x ≤ 0)
  part_below f (x ∷ xs) = All-cons (λ y. f y ≤ f x + total f xs) x xs (omega arith)
      (all_weaker xs (part_below f xs)) where
        all_weaker : (ys : List V) → All (λ y. f y ≤ total f xs) ys → All (λ y. f y ≤ f x + total f xs) ys
        all_weaker ys all = λ k d lt. let here = all k d lt in omega (arith, here)

  -- of numbers that are made of each, one's after the other's
  pub times-flat : (f : V → List ℕ) (n : ℕ) (xs : List V) → times n (flat_map f xs) ≡ total (λ x. times n (f x)) xs
  times-flat f n [] = refl
  times-flat f n (x ∷ xs) =
      let parts = times-append n (f x) (flat_map f xs) in
      let rest = times-flat f n xs in
      omega (arith, parts, rest)

  pub map-flat : {A B : Type 0} (g : A → B) (f : V → List A) (xs : List V) → map g (flat_map f xs) ≡ flat_map (λ x. map g (f x)) xs
  map-flat g f [] = refl
  map-flat g f (x ∷ xs) = map-append g (f x) (flat_map f xs) ∙ ap (λ ys. map g (f x) ++ ys) (map-flat g f xs)
