-- Entries of lists by their places and numbers, where one entry changed or came.
use Rattle.std.proofs.Common.{◌≡◌, ℕ, zero, suc, ◌+◌, ◌-◌, ◌<◌, inl, inr, Bool, true, false, cond, eqb, ltb, get_or, set, List, [], ◌∷◌, ◌++◌, length, Option, Some, None, refl, ap, arith}
use Rattle.std.specs.Prelude.{slice_get, map, not}
use Rattle.std.specs.List.{position, position_or_len, prefix_len}
use Rattle.std.specs.Option.{option_and_then}
use Rattle.std.proofs.lemmas.List.{get_or-set_same, get_or-set_other, length-map}
use Rattle.std.proofs.lemmas.Bool.{ltb-true}
use Rattle.std.proofs.lemmas.Bool.Decides.{nat_tests, eqb_tells}
use Rattle.dl_world_calls.specs.State.{Writer}
use Rattle.dl_world_calls.specs.Follows.{no_writer, writer_at}
use Rattle.dl_lemmas.proofs.Options.{place_is}

-- ---- numbers that differ

pub apart : (w n k : ℕ) → w ≡ n → eqb k n ≡ false → eqb w k ≡ false
apart w n k e other = grind (arith, nat_tests)

pub alike : (w n : ℕ) → eqb w n ≡ true → w ≡ n
alike w n e = elim (eqb_tells w n) as (λ _. w ≡ n) [ inl same ↦ same.1 | inr other ↦ absurd cc ]

-- ---- one entry changed

pub get_or-set : {A : Type 0} (xs : List A) (i k : ℕ) (y d : A) → i < length xs → get_or (set xs i y) k d ≡ cond (eqb k i) y (get_or xs k d)
get_or-set xs i k y d below = elim (eqb_tells k i) as (λ _. get_or (set xs i y) k d ≡ cond (eqb k i) y (get_or xs k d)) [
  | inl same ↦ rw (same.0, same.1) (get_or-set_same xs i y d below)
  | inr apart ↦ rw apart.0 (get_or-set_other xs i k y d apart.1)
]

pub writer_at-set : (ws : List Writer) (n k : ℕ) (y : Writer) → 0 < n → n - 1 < length ws → writer_at (set ws (n - 1) y) k ≡ cond (eqb k n) y (writer_at ws k)
writer_at-set ws n zero y some below = let not_zero : eqb 0 n ≡ false = grind (arith, nat_tests) in rw not_zero refl
writer_at-set ws n (suc k) y some below =
    let not_zero : eqb (suc k) 0 ≡ false = grind (arith, nat_tests) in
    let back : suc k - 1 ≡ k = omega arith in
    let same : eqb (suc k) n ≡ eqb k (n - 1) = grind (arith, nat_tests, some) in
    rw (not_zero, back, same) (get_or-set ws (n - 1) k y no_writer below)

-- a property of each entry by its number
pub each_set : {A : Type 0} (P : ℕ → A → Type 0) (f : ℕ → A) (n : ℕ) (y : A) → P n y → ((k : ℕ) → eqb k n ≡ false → P k (f k)) → (k : ℕ) → P k (cond (eqb k n) y (f k))
each_set P f n y here others k = elim (eqb_tells k n) as (λ _. P k (cond (eqb k n) y (f k))) [
  | inl same ↦ rw (same.0, same.1) here
  | inr apart ↦ rw apart.0 (others k apart.0)
]

-- what a lookup gives is given where one entry changed, if that entry gives it still
pub kept_set : {A B : Type 0} (f : A → Option B) (xs : List A) (i k : ℕ) (y d : A) (r : B) → (f (get_or xs i d) ≡ Some r → f y ≡ Some r)
    → option_and_then f (slice_get xs k) ≡ Some r → option_and_then f (slice_get (set xs i y) k) ≡ Some r
kept_set f [] i k y d r keeps e = e
kept_set f (x ∷ xs) zero zero y d r keeps e = keeps e
kept_set f (x ∷ xs) zero (suc k) y d r keeps e = e
kept_set f (x ∷ xs) (suc i) zero y d r keeps e = e
kept_set f (x ∷ xs) (suc i) (suc k) y d r keeps e = kept_set f xs i k y d r keeps e

pub slice_get-set : {A : Type 0} (xs : List A) (i : ℕ) (y : A) → i < length xs → slice_get (set xs i y) i ≡ Some y
slice_get-set [] i y below = absurd (omega (arith, below))
slice_get-set (x ∷ xs) zero y below = refl
slice_get-set (x ∷ xs) (suc i) y below = slice_get-set xs i y (omega (arith, below))

-- what an entry tells is told by the entry in its place
pub told_set : {A B : Type 0} (f : A → B) (xs : List A) (i k : ℕ) (y d : A) → f y ≡ f (get_or xs i d) → f (get_or (set xs i y) k d) ≡ f (get_or xs k d)
told_set f [] i k y d same = refl
told_set f (x ∷ xs) zero zero y d same = same
told_set f (x ∷ xs) zero (suc k) y d same = refl
told_set f (x ∷ xs) (suc i) zero y d same = refl
told_set f (x ∷ xs) (suc i) (suc k) y d same = told_set f xs i k y d same

-- ---- one entry more

-- an entry that is not there yet, and the one that came
pub get_or-push : {A : Type 0} (xs : List A) (k : ℕ) (y d : A) → get_or (xs ++ y ∷ []) k d ≡ cond (eqb k (length xs)) y (get_or xs k d)
get_or-push [] zero y d = refl
get_or-push [] (suc k) y d = let apart : eqb (suc k) 0 ≡ false = grind (arith, nat_tests) in rw apart refl
get_or-push (x ∷ xs) zero y d = let apart : eqb 0 (suc (length xs)) ≡ false = grind (arith, nat_tests) in rw apart refl
get_or-push (x ∷ xs) (suc k) y d =
    let same : eqb (suc k) (suc (length xs)) ≡ eqb k (length xs) = grind (arith, nat_tests) in
    rw same (get_or-push xs k y d)

pub get_or-past : {A : Type 0} (xs : List A) (d : A) → get_or xs (length xs) d ≡ d
get_or-past [] d = refl
get_or-past (x ∷ xs) d = get_or-past xs d

-- ---- places of the first that passes

pub position_to_len : {A : Type 0} (p : A → Bool) (xs : List A) (n : ℕ) → position p xs ≡ Some n → (position_or_len p xs ≡ n) × (n < length xs)
position_to_len p xs n e =
    let is = place_is (ltb (position_or_len p xs) (length xs)) (position_or_len p xs) n e in
    let lt : position_or_len p xs < length xs = ltb-true (position_or_len p xs) (length xs) is.0 in
    (is.1, omega (arith, lt, is.1))

-- the place among what entries tell
pub prefix_len-map : {A B : Type 0} (f : A → B) (p : B → Bool) (xs : List A) → prefix_len p (map f xs) ≡ prefix_len (λ x. p (f x)) xs
prefix_len-map f p [] = refl
prefix_len-map f p (x ∷ xs) = ap (λ (n : ℕ). cond (p (f x)) (1 + n) 0) (prefix_len-map f p xs)

pub position-map : {A B : Type 0} (f : A → B) (p : B → Bool) (xs : List A) → position p (map f xs) ≡ position (λ x. p (f x)) xs
position-map {B = B} f p xs =
    let count : length (map f xs) ≡ length xs = length-map xs f in
    rw (prefix_len-map f (λ (y : B). not (p y)) xs, count) refl

-- ---- an entry that is there

pub any_default : {A : Type 0} (xs : List A) (i : ℕ) (d e : A) → i < length xs → get_or xs i d ≡ get_or xs i e
any_default [] i d e below = absurd (omega (arith, below))
any_default (x ∷ xs) zero d e below = refl
any_default (x ∷ xs) (suc i) d e below = any_default xs i d e (omega (arith, below))

pub there : {A : Type 0} (xs : List A) (i : ℕ) (d : A) → i < length xs → slice_get xs i ≡ Some (get_or xs i d)
there [] i d below = absurd (omega (arith, below))
there (x ∷ xs) zero d below = refl
there (x ∷ xs) (suc i) d below = there xs i d (omega (arith, below))

pub found : {A : Type 0} (xs : List A) (i : ℕ) (x d : A) → slice_get xs i ≡ Some x → (i < length xs) × (get_or xs i d ≡ x)
found [] i x d e = absurd cc
found (y ∷ xs) zero x d e = (omega arith, cc)
found (y ∷ xs) (suc i) x d e = let at = found xs i x d e in (omega (arith, at.0), at.1)

pub missing : {A : Type 0} (xs : List A) (i : ℕ) (d : A) → slice_get xs i ≡ None → get_or xs i d ≡ d
missing [] i d e = refl
missing (y ∷ xs) zero d e = absurd cc
missing (y ∷ xs) (suc i) d e = missing xs i d e
