-- Lists of which one entry changes.
use Rattle.std.proofs.Common.{◌≡◌, ◌≢◌, ℕ, zero, suc, pred, ◌+◌, ◌<◌, Bool, List, [], ◌∷◌, ◌++◌, length, Some, refl, sym, ap, subst, arith, map}
use Rattle.std.specs.Prelude.{count_by, cond, slice_get, slice_set}
use Rattle.std.proofs.lemmas.List.Sums.{sum_by-cons}

pub set_length : {A : Type 0} (xs : List A) (i : ℕ) (x : A) → length (slice_set xs i x) ≡ length xs
set_length [] i x = refl
set_length (z ∷ zs) zero x = refl
set_length (z ∷ zs) (suc i) x = ap suc (set_length zs i x)

pub set_map : {A B : Type 0} (f : A → B) (xs : List A) (i : ℕ) (x : A) → map f (slice_set xs i x) ≡ slice_set (map f xs) i (f x)
set_map f [] i x = refl
set_map f (z ∷ zs) zero x = refl
set_map f (z ∷ zs) (suc i) x = ap (λ (ys : List _). f z ∷ ys) (set_map f zs i x)

-- what an entry of the list is, where one has changed
pub set_cases : {A : Type 0} (P : A → Type 0) (xs : List A) (i j : ℕ) (x y z : A) → slice_get xs i ≡ Some x → (j ≡ i → P y) → (j ≢ i → slice_get xs j ≡ Some z → P z)
    → slice_get (slice_set xs i y) j ≡ Some z → P z
set_cases P [] i j x y z there here other is = absurd cc
set_cases P (w ∷ ws) zero zero x y z there here other is = let same : y ≡ z = cc is in subst P same (here refl)
set_cases P (w ∷ ws) zero (suc j) x y z there here other is = other (λ e. absurd cc) is
set_cases P (w ∷ ws) (suc i) zero x y z there here other is = other (λ e. absurd cc) is
set_cases P (w ∷ ws) (suc i) (suc j) x y z there here other is = set_cases P ws i j x y z there (λ e. here (ap suc e)) (λ apart. other (λ e. apart (omega (arith, e)))) is

abbrev pub one_if : Bool → ℕ
one_if b = cond b 1 0

-- lists that have the same at each place
tails : {A : Type 0} (xs ys : List A) → length ys ≡ length xs → ((j : ℕ) → slice_get ys j ≡ slice_get xs j) → ys ≡ xs
tails [] [] long same = refl
tails [] (y ∷ ys) long same = absurd cc
tails (x ∷ xs) [] long same = absurd cc
tails (x ∷ xs) (y ∷ ys) long same =
    let head : y ≡ x = cc (same 0) in
    let rest : ys ≡ xs = tails xs ys (ap pred long) (λ j. same (suc j)) in λ i. head i ∷ rest i

-- lists that differ at one place differ in number by that one
pub count_but : {A : Type 0} (p : A → Bool) (xs ys : List A) (i : ℕ) (x y : A) → length ys ≡ length xs → ((j : ℕ) → j ≢ i → slice_get ys j ≡ slice_get xs j)
    → slice_get xs i ≡ Some x → slice_get ys i ≡ Some y → count_by p ys + one_if (p x) ≡ count_by p xs + one_if (p y)
count_but p [] ys i x y long others old new = absurd cc
count_but p (a ∷ ms) [] i x y long others old new = absurd cc
count_but p (a ∷ ms) (b ∷ ns) zero x y long others old new =
    let same : ns ≡ ms = tails ms ns (ap pred long) (λ j. others (suc j) (λ e. absurd cc)) in
    let first : a ≡ x = cc in
    let now : b ≡ y = cc in
    rw (sym first, sym now) (omega (arith, sum_by-cons (λ c. one_if (p c)) a ms, sum_by-cons (λ c. one_if (p c)) b ns, ap (count_by p) same))
count_but p (a ∷ ms) (b ∷ ns) (suc i) x y long others old new =
    let rest = count_but p ms ns i x y (ap pred long) (λ j apart. others (suc j) (λ e. apart (ap pred e))) old new in
    let head : b ≡ a = cc (others 0 (λ e. absurd cc)) in
    omega (arith, rest, sum_by-cons (λ c. one_if (p c)) a ms, sum_by-cons (λ c. one_if (p c)) b ns, ap (λ (c : _). one_if (p c)) head)

-- ---- one more at the end

pub get_before : {A : Type 0} (xs ys : List A) (place : ℕ) → place < length xs → slice_get (xs ++ ys) place ≡ slice_get xs place
get_before [] ys place within = absurd (omega (arith, within))
get_before (x ∷ xs) ys zero within = refl
get_before (x ∷ xs) ys (suc place) within = get_before xs ys place (omega (arith, within))
