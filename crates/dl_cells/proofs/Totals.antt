-- Totals of views, after a change of one and with one more.
use Rattle.std.proofs.Common.{◌≡◌, ◌≢◌, ℕ, zero, suc, ◌+◌, ◌*◌, ◌==◌, ◌≤◌, List, [], ◌∷◌, ◌++◌, set, sym, refl, ap, ◌∙◌, arith, ne_eqb, eq-eqb, zero-mul, add-mul}
use mathlib.Core.Option.{some, some-injective, some-ne-none}
use lib.ListN.{get_elem?}
use Rattle.dl_cells.specs.Views.{Each, total, bit, times}
use Rattle.dl_cells.proofs.Each.{each_tail}

module _ {V : Type 0} (f : V → ℕ) where
  -- after a change of one view
  pub total-set : (views : List V) (id : ℕ) (v w : V) → get_elem? views id ≡ some v → total f (set views id w) + f v ≡ total f views + f w
  total-set [] id v w e = absurd (some-ne-none v (sym e))
  total-set (x ∷ xs) zero v w e = let is : f x ≡ f v = ap f (some-injective x v e) in omega arith
  total-set (x ∷ xs) (suc id) v w e = let rest = total-set xs id v w e in omega arith

  pub total-append : (xs ys : List V) → total f (xs ++ ys) ≡ total f xs + total f ys
  total-append [] ys = omega arith
  total-append (x ∷ xs) ys = let rest = total-append xs ys in omega arith

  -- with one more view
  pub total-snoc : (xs : List V) (w : V) → total f (xs ++ w ∷ []) ≡ total f xs + f w
  total-snoc [] w = omega arith
  total-snoc (x ∷ xs) w = let rest = total-snoc xs w in omega arith

  -- a view has at most the total
  pub total_at : (views : List V) (id : ℕ) (v : V) → get_elem? views id ≡ some v → f v ≤ total f views
  total_at [] id v e = absurd (some-ne-none v (sym e))
  total_at (x ∷ xs) zero v e = let is : f x ≡ f v = ap f (some-injective x v e) in omega arith
  total_at (x ∷ xs) (suc id) v e = let rest = total_at xs id v e in omega arith

  -- two views have at most the total together
  pub total_two : (views : List V) (i j : ℕ) (v w : V) → i ≢ j → get_elem? views i ≡ some v → get_elem? views j ≡ some w → f v + f w ≤ total f views
  total_two [] i j v w apart e e' = absurd (some-ne-none v (sym e))
  total_two (x ∷ xs) zero zero v w apart e e' = absurd (apart refl)
  total_two (x ∷ xs) zero (suc j) v w apart e e' = let is : f x ≡ f v = ap f (some-injective x v e) in let rest = total_at xs j w e' in omega arith
  total_two (x ∷ xs) (suc i) zero v w apart e e' = let is : f x ≡ f w = ap f (some-injective x w e') in let rest = total_at xs i v e in omega arith
  total_two (x ∷ xs) (suc i) (suc j) v w apart e e' = let rest = total_two xs i j v w (λ same. apart (ap suc same)) e e' in omega arith

module _ {V : Type 0} (f g : V → ℕ) where
  pub total_le : (views : List V) → Each (λ _ v. f v ≤ g v) views → total f views ≤ total g views
  total_le [] each = omega arith
  total_le (x ∷ xs) each = let mine = each 0 x refl in let rest = total_le xs (each_tail (λ v. f v ≤ g v) x xs each) in omega arith

  pub total_add : (views : List V) → total (λ v. f v + g v) views ≡ total f views + total g views
  total_add [] = refl
  total_add (x ∷ xs) = let rest = total_add xs in omega arith

  -- where there is none of f in all, there is none of g
  pub idle_rest : (views : List V) → total f views ≡ 0 → Each (λ _ u. f u ≡ 0 → g u ≡ 0) views → total g views ≡ 0
  idle_rest [] all idle = refl
  idle_rest (x ∷ xs) all idle = let mine = idle 0 x refl (omega arith) in let rest = idle_rest xs (omega arith) (each_tail (λ u. f u ≡ 0 → g u ≡ 0) x xs idle) in omega arith

  -- where one view has all of f, and a view with none of f has none of g, that view has all of g
  pub total_alone : (views : List V) (id : ℕ) (v : V) → get_elem? views id ≡ some v → total f views ≡ f v → Each (λ _ u. f u ≡ 0 → g u ≡ 0) views → total g views ≡ g v
  total_alone [] id v e all idle = absurd (some-ne-none v (sym e))
  total_alone (x ∷ xs) zero v e all idle = let is : f x ≡ f v = ap f (some-injective x v e) in let also : g x ≡ g v = ap g (some-injective x v e) in let none = idle_rest xs (omega arith) (each_tail (λ u. f u ≡ 0 → g u ≡ 0) x xs idle) in omega arith
  total_alone (x ∷ xs) (suc id) v e all idle = let most = total_at f xs id v e in let none = idle 0 x refl (omega arith) in
      let rest = total_alone xs id v e (omega arith) (each_tail (λ u. f u ≡ 0 → g u ≡ 0) x xs idle) in omega arith

module _ {V : Type 0} (f : V → ℕ) (k : ℕ) where
  -- of a multiple
  pub total_scale : (views : List V) → total (λ v. f v * k) views ≡ total f views * k
  total_scale [] = sym (zero-mul k)
  total_scale (x ∷ xs) = ap (λ n. f x * k + n) (total_scale xs) ∙ sym (add-mul (f x) (total f xs) k)

pub times-append : (n : ℕ) (xs ys : List ℕ) → times n (xs ++ ys) ≡ times n xs + times n ys
times-append n xs ys = total-append (λ x. bit (x == n)) xs ys

-- a number more
pub times_more : (n : ℕ) (xs : List ℕ) → times n (xs ++ n ∷ []) ≡ times n xs + 1
times_more n xs = total-snoc (λ x. bit (x == n)) xs n ∙ ap (λ k. times n xs + k) (ap bit (eq-eqb n n refl))

-- a number more, and another one counts as before
pub times_else : (n m : ℕ) (xs : List ℕ) → m ≢ n → times n (xs ++ m ∷ []) ≡ times n xs
times_else n m xs apart = let one : bit (m == n) ≡ 0 = ap bit (ne_eqb m n apart) in let sum = total-snoc (λ x. bit (x == n)) xs m in omega arith
