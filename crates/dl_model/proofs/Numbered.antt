-- Numbers and places: the least free one, and that they stay apart.
use Rattle.std.proofs.Common.{◌≡◌, ℕ, ◌+◌, ◌<◌, ◌≤◌, ◌⊎◌, inl, inr, Bool, true, false, cond, List, [], ◌∷◌, ◌++◌, length, map, get_or, Some, refl, sym, ap, subst, true≢false, zero-add, ◌∙◌, arith}
use Rattle.std.specs.Prelude.{nat_eq, ◌||◌}
use Rattle.std.specs.List.{AllByRecursion, IsDistinct, filter, list_any, range_with_len}
use Rattle.std.specs.Map.{lookup, set_value}
use Rattle.std.proofs.lemmas.Bool.{cases_lt}
use Rattle.std.proofs.lemmas.Bool.Decides.{eqb_tells}
use Rattle.std.proofs.lemmas.List.FromFn.{length-range_with_len, get_or-range_with_len}
use Rattle.std.proofs.lemmas.List.Sums.{prefix_len-le-length, prefix_len_passes, prefix_len_stops}
use Rattle.std.proofs.lemmas.Map.Keys.{IsDistinct-push, IsDistinct-head, IsDistinct-tail, IsDistinct-cons}
use Rattle.std.proofs.lemmas.Map.Steps.{le-length_from_below, length-le_from_distinct_below}
use Rattle.std.specs.Cmp.{nat_eq_equiv}
use Rattle.dl_lemmas.proofs.Lists.{all_end}
use Rattle.dl_model.specs.Registry.{least_free, IsNumbered}

-- ---- the least free number

pub least_free-le-length : (used : List ℕ) → least_free used ≤ length used
least_free-le-length used =
    omega (arith, prefix_len-le-length (λ n. list_any (λ m. nat_eq n m) used) (range_with_len 0 (length used)), length-range_with_len 0 (length used))

-- each smaller number is used
pub below_least_free : (used : List ℕ) (n : ℕ) → n < least_free used → list_any (nat_eq n) used ≡ true
below_least_free used n below =
    let p : ℕ → Bool = λ k. list_any (λ m. nat_eq k m) used in
    let within : n < length used = omega (arith, least_free-le-length used) in
    ap p (sym (get_or-range_with_len 0 (length used) n 0 within ∙ omega arith)) ∙ prefix_len_passes p (range_with_len 0 (length used)) n 0 below

below_or_same : (q n : ℕ) → q < n + 1 → (q < n) ⊎ (q ≡ n)
below_or_same q n below = elim (cases_lt q n) [ inl less ↦ inl less | inr more ↦ inr (omega arith) ]

-- it is not used: not all of the first numbers, one more than there are used ones, can be
pub least_free-is_free : (used : List ℕ) → list_any (nat_eq (least_free used)) used ≡ false
least_free-is_free used = by (list_any (nat_eq (least_free used)) used) refl where
  by : (b : Bool) → list_any (nat_eq (least_free used)) used ≡ b → list_any (nat_eq (least_free used)) used ≡ false
  by false is = is
  by true is =
      let p : ℕ → Bool = λ k. list_any (λ m. nat_eq k m) used in
      let n : ℕ = least_free used in
      let long : n + 1 ≤ length used = le-length_from_below used (n + 1) (λ q below. elim (below_or_same q n below) [ inl less ↦ below_least_free used q less | inr same ↦ ap p same ∙ is ]) in
      let within : n < length (range_with_len 0 (length used)) = omega (arith, length-range_with_len 0 (length used)) in
      let at_n : get_or (range_with_len 0 (length used)) n 0 ≡ n = get_or-range_with_len 0 (length used) n 0 (omega arith) ∙ zero-add n in
      sym (ap p at_n) ∙ prefix_len_stops p (range_with_len 0 (length used)) 0 within

-- ---- numbers that stay apart

-- a number that is free is added
pub IsNumbered-add : (limit : ℕ) (used : List ℕ) (n : ℕ) → IsNumbered limit used → list_any (nat_eq n) used ≡ false → n < limit → IsNumbered limit (used ++ n ∷ [])
IsNumbered-add limit used n is free below = record {
  apart = IsDistinct-push nat_eq_equiv used n is.apart free;
  below = all_end (λ m. m < limit) used n is.below below;
}

pub IsNumbered-push : (limit : ℕ) (used : List ℕ) → IsNumbered limit used → length used < limit → IsNumbered limit (used ++ least_free used ∷ [])
IsNumbered-push limit used is room = IsNumbered-add limit used (least_free used) is (least_free-is_free used) (omega (arith, least_free-le-length used))

AllByRecursion-kept : {A : Type 0} (f : A → ℕ) (P : ℕ → Type 0) (b : Bool) (x : A) (xs : List A) → P (f x) → AllByRecursion P (map f xs) → AllByRecursion P (map f (cond b (x ∷ xs) xs))
AllByRecursion-kept f P true x xs here all = (here, all)
AllByRecursion-kept f P false x xs here all = all

pub AllByRecursion-map_filter : {A : Type 0} (f : A → ℕ) (p : A → Bool) (P : ℕ → Type 0) (xs : List A) → AllByRecursion P (map f xs) → AllByRecursion P (map f (filter p xs))
AllByRecursion-map_filter f p P [] all = all
AllByRecursion-map_filter f p P (x ∷ xs) all = AllByRecursion-kept f P (p x) x (filter p xs) all.0 (AllByRecursion-map_filter f p P xs all.1)

IsDistinct-kept : {A : Type 0} (f : A → ℕ) (b : Bool) (x : A) (xs : List A) → AllByRecursion (λ y. nat_eq (f x) y ≡ false) (map f xs) → IsDistinct nat_eq (map f xs) → IsDistinct nat_eq (map f (cond b (x ∷ xs) xs))
IsDistinct-kept f true x xs apart is = IsDistinct-cons nat_eq (f x) (map f xs) apart is
IsDistinct-kept f false x xs apart is = is

pub IsDistinct-map_filter : {A : Type 0} (f : A → ℕ) (p : A → Bool) (xs : List A) → IsDistinct nat_eq (map f xs) → IsDistinct nat_eq (map f (filter p xs))
IsDistinct-map_filter f p [] is = is
IsDistinct-map_filter f p (x ∷ xs) is =
    IsDistinct-kept f (p x) x (filter p xs)
    (AllByRecursion-map_filter f p (λ y. nat_eq (f x) y ≡ false) xs (IsDistinct-head nat_eq (f x) (map f xs) is))
    (IsDistinct-map_filter f p xs (IsDistinct-tail nat_eq (f x) (map f xs) is))

-- some of the entries, by a test
pub IsNumbered-filter : {A : Type 0} (limit : ℕ) (f : A → ℕ) (p : A → Bool) (xs : List A) → IsNumbered limit (map f xs) → IsNumbered limit (map f (filter p xs))
IsNumbered-filter limit f p xs is = record {
  apart = IsDistinct-map_filter f p xs is.apart;
  below = AllByRecursion-map_filter f p (λ n. n < limit) xs is.below;
}

pub IsNumbered-none : (limit : ℕ) → IsNumbered limit []
unfolding IsDistinct
IsNumbered-none limit = record { apart = tt; below = tt }

AllByRecursion-member : (P : ℕ → Type 0) (xs : List ℕ) (q : ℕ) → AllByRecursion P xs → list_any (nat_eq q) xs ≡ true → P q
AllByRecursion-member P [] q all is = absurd (true≢false (sym is))
AllByRecursion-member P (x ∷ xs) q all is = elim (eqb_tells q x) [
  | inl here ↦ subst P (sym here.1) all.0
  | inr other ↦ AllByRecursion-member P xs q all.1 (sym (ap (λ b. b || list_any (nat_eq q) xs) other.0) ∙ is)
]

-- there are no more than the limit
pub IsNumbered-length : (limit : ℕ) (used : List ℕ) → IsNumbered limit used → length used ≤ limit
IsNumbered-length limit used is = length-le_from_distinct_below used limit is.apart (λ q there. AllByRecursion-member (λ n. n < limit) used q is.below there)

-- a value that is written at a key keeps what is the same of the old one
pub map-set_value : {X : Type 0} (f : List ℕ × X → ℕ) (test : List ℕ → Bool) (es : List (List ℕ × X)) (v w : X)
    → lookup test es ≡ Some v → ((k : List ℕ) → f (k, w) ≡ f (k, v)) → map f (set_value test es w) ≡ map f es
map-set_value f test [] v w found same = refl
map-set_value f test (e ∷ es) v w found same = by (test e.0) refl (map-set_value f test es v w) where
  by : (b : Bool) → test e.0 ≡ b → (lookup test es ≡ Some v → ((k : List ℕ) → f (k, w) ≡ f (k, v)) → map f (set_value test es w) ≡ map f es)
      → map f (cond (test e.0) ((e.0, w) ∷ es) (e ∷ set_value test es w)) ≡ map f (e ∷ es)
  by true is rest =
      let here : e.1 ≡ v = cc (sym (ap (λ b. cond b (Some e.1) (lookup test es)) is) ∙ found) in
      ap (λ b. map f (cond b ((e.0, w) ∷ es) (e ∷ set_value test es w))) is ∙ ap (λ n. n ∷ map f es) (same e.0 ∙ ap (λ u. f (e.0, u)) (sym here))
  by false is rest =
      ap (λ b. map f (cond b ((e.0, w) ∷ es) (e ∷ set_value test es w))) is ∙ ap (λ t. f e ∷ t) (rest (sym (ap (λ b. cond b (Some e.1) (lookup test es)) is) ∙ found) same)
