-- How what was given and what was refused add up.
use Rattle.std.proofs.Common.{◌≡◌, ◌≢◌, ℕ, zero, suc, ◌+◌, ◌<◌, ◌≤◌, Bool, true, false, nat_lt, ◌==◌, List, [], ◌∷◌, ◌++◌, get_or, replicate, map, filter, cond, eqb, ap, ◌∙◌, refl, ⊎_elim, arith, inl, inr, ◌⊎◌, eq-eqb, ne_eqb, add-zero, append-nil, lt-ltb, le-ltb, ltb-true, ltb-false}
use Rattle.std.proofs.lemmas.Bool.Decides.{eqb_tells}
use Rattle.std.proofs.lemmas.List.{map-append}
use Rattle.std.proofs.lemmas.List.Sums.{sum_by-append}
use Rattle.std.proofs.lemmas.List.Elements.{filter-append}
use Rattle.dl_cells.specs.Views.{bit, times}
use Rattle.dl_cells.proofs.Totals.{total-snoc}
use Rattle.dl_cells.specs.declared.claimer.Given.{Given}
use Rattle.dl_cells.specs.Claims.{given, given_of, refused_of}
use Rattle.dl_cells.specs.ClaimStates.{once_refused}

pub given_of-append : (app : ℕ) (xs ys : List Given) → given_of app (xs ++ ys) ≡ given_of app xs ++ given_of app ys
given_of-append app xs ys = ap (λ (gs : List Given). map (λ g. g.number) gs) (filter-append (λ g. eqb g.app app) xs ys)
    ∙ map-append (λ (g : Given). g.number) (filter (λ g. eqb g.app app) xs) (filter (λ g. eqb g.app app) ys)

-- a number more of the application
pub given_more : (app number : ℕ) (xs : List Given) → given_of app (xs ++ given app number ∷ []) ≡ given_of app xs ++ number ∷ []
given_more app number xs = given_of-append app xs (given app number ∷ [])
    ∙ ap (λ b. given_of app xs ++ map (λ (g : Given). g.number) (cond b (given app number ∷ []) [])) (eq-eqb app app refl)

-- a number more of another one
pub given_else : (app other number : ℕ) (xs : List Given) → other ≢ app → given_of app (xs ++ given other number ∷ []) ≡ given_of app xs
given_else app other number xs apart = given_of-append app xs (given other number ∷ [])
    ∙ ap (λ b. given_of app xs ++ map (λ (g : Given). g.number) (cond b (given other number ∷ []) [])) (ne_eqb other app apart) ∙ append-nil (given_of app xs)

pub refused_of-append : (app : ℕ) (xs ys : List ℕ) → refused_of app (xs ++ ys) ≡ refused_of app xs + refused_of app ys
refused_of-append app xs ys = sum_by-append (λ a. cond (eqb a app) 1 0) xs ys

-- one refusal more of the application
pub refused_more : (app : ℕ) (xs : List ℕ) → refused_of app (xs ++ app ∷ []) ≡ refused_of app xs + 1
refused_more app xs = refused_of-append app xs (app ∷ []) ∙ ap (λ b. refused_of app xs + (0 + cond b 1 0)) (eq-eqb app app refl)

-- one more of another one
pub refused_else : (app other : ℕ) (xs : List ℕ) → other ≢ app → refused_of app (xs ++ other ∷ []) ≡ refused_of app xs
refused_else app other xs apart = refused_of-append app xs (other ∷ []) ∙ ap (λ b. refused_of app xs + (0 + cond b 1 0)) (ne_eqb other app apart) ∙ add-zero (refused_of app xs)

-- after a claim that gave none, by whether it is the first such one
once_is : (app : ℕ) (xs : List ℕ) → ((refused_of app xs ≡ 0) × (once_refused app xs ≡ xs ++ app ∷ [])) ⊎ ((refused_of app xs ≢ 0) × (once_refused app xs ≡ xs))
once_is app xs = ⊎_elim (λ first. inl (first.1, ap (λ b. cond b (xs ++ app ∷ []) xs) first.0)) (λ later. inr (later.1, ap (λ b. cond b (xs ++ app ∷ []) xs) later.0)) (eqb_tells (refused_of app xs) 0)

-- it is noted then that none is left
pub once_some : (app : ℕ) (xs : List ℕ) → 0 < refused_of app (once_refused app xs)
once_some app xs = let more = refused_more app xs in ⊎_elim (λ first. let is = ap (refused_of app) first.1 in omega arith) (λ later. let is = ap (refused_of app) later.1 in let some = later.0 in omega arith) (once_is app xs)

-- a number more counts for itself alone
pub times-snoc : (n number : ℕ) (xs : List ℕ) → times n (xs ++ number ∷ []) ≡ times n xs + bit (number == n)
times-snoc n number xs = total-snoc (λ x. bit (x == n)) xs number

below_by : (n k : ℕ) (b : Bool) → nat_lt n k ≡ b → bit (nat_lt n (k + 1)) ≡ bit b + bit (k == n)
below_by n k true e = let below = ltb-true n k e in let one : bit (nat_lt n (k + 1)) ≡ 1 = ap bit (lt-ltb n (k + 1) (omega arith)) in
    let none : bit (k == n) ≡ 0 = ap bit (ne_eqb k n (λ same. omega arith)) in omega arith
below_by n k false e = let above = ltb-false n k e in ⊎_elim
    (λ (x : (eqb k n ≡ true) × (k ≡ n)). let same = x.1 in let one : bit (nat_lt n (k + 1)) ≡ 1 = ap bit (lt-ltb n (k + 1) (omega arith)) in let also : bit (k == n) ≡ 1 = ap bit x.0 in omega arith)
    (λ (x : (eqb k n ≡ false) × (k ≢ n)). let apart = x.1 in let none : bit (nat_lt n (k + 1)) ≡ 0 = ap bit (le-ltb n (k + 1) (omega arith)) in let also : bit (k == n) ≡ 0 = ap bit x.0 in omega arith)
    (eqb_tells k n)

-- the numbers below k + 1 are those below k, and k
pub bit_below : (n k : ℕ) → bit (nat_lt n (k + 1)) ≡ bit (nat_lt n k) + bit (k == n)
bit_below n k = below_by n k (nat_lt n k) refl

-- where nothing is noted
pub none_noted : (count place : ℕ) → get_or (replicate count false) place false ≡ false
none_noted zero place = refl
none_noted (suc count) zero = refl
none_noted (suc count) (suc place) = none_noted count place
