-- Which channel stands behind a visit to another one.
use Rattle.std.proofs.Common.{◌≡◌, ◌⊎◌, inl, inr, ℕ, zero, suc, ◌+◌, ◌<◌, ◌≤◌, Bool, true, false, cond, not, List, [], ◌∷◌, length, map, filter, drop, Option, Some, None, slice_get, refl, sym, ap, subst, ◌∙◌, arith}
use Rattle.std.specs.Prelude.{nat_eq}
use Rattle.std.specs.List.{AllByRecursion, IsDistinct}
use Rattle.std.specs.Map.{keys_of}
use Rattle.std.specs.Option.{option_map_or}
use Rattle.std.proofs.lemmas.Map.Keys.{IsDistinct-head, IsDistinct-tail}
use Rattle.dl_channels.specs.Rounds.{is_at, place_behind}
use Rattle.dl_lemmas.proofs.Numbers.{nat_eq_apart, nat_eq_same}

-- those of other numbers
abbrev pub others_than : ℕ → List ℕ → List ℕ
others_than channel numbers = filter (λ other. not (nat_eq channel other)) numbers

-- entries of other keys have other keys
pub keys_filter : {A : Type 0} (channel : ℕ) (es : List (ℕ × A)) → keys_of (filter (λ (e : ℕ × A). not (nat_eq channel e.0)) es) ≡ others_than channel (keys_of es)
keys_filter channel [] = refl
keys_filter {A} channel (e ∷ es) = by (not (nat_eq channel e.0)) (keys_filter channel es) where
  by : (b : Bool) → keys_of (filter (λ (x : ℕ × A). not (nat_eq channel x.0)) es) ≡ others_than channel (keys_of es)
      → keys_of (cond b (e ∷ filter (λ (x : ℕ × A). not (nat_eq channel x.0)) es) (filter (λ (x : ℕ × A). not (nat_eq channel x.0)) es)) ≡ cond b (e.0 ∷ others_than channel (keys_of es)) (others_than channel (keys_of es))
  by true rest = ap (λ (ks : List ℕ). e.0 ∷ ks) rest
  by false rest = rest

-- none of them has this one
all_others : (channel : ℕ) (xs : List ℕ) → AllByRecursion (λ y. nat_eq channel y ≡ false) xs → others_than channel xs ≡ xs
all_others channel [] apart = refl
all_others channel (x ∷ xs) apart = ap (λ (b : Bool). cond (not b) (x ∷ others_than channel xs) (others_than channel xs)) apart.0 ∙ ap (λ (ys : List ℕ). x ∷ ys) (all_others channel xs apart.1)

among : (x channel : ℕ) (xs : List ℕ) (place : ℕ) → AllByRecursion (λ y. nat_eq x y ≡ false) xs → slice_get xs place ≡ Some channel → nat_eq x channel ≡ false
among x channel [] place apart there = absurd (cc there)
among x channel (y ∷ ys) zero apart there = let same : y ≡ channel = cc there in subst (λ (n : ℕ). nat_eq x n ≡ false) same apart.0
among x channel (y ∷ ys) (suc place) apart there = among x channel ys place apart.1 there

-- this one is nowhere among the others
nowhere : (channel : ℕ) (xs : List ℕ) (place : ℕ) → is_at (others_than channel xs) place channel ≡ false
nowhere channel [] place = refl
nowhere channel (x ∷ xs) place = by (nat_eq channel x) refl place (λ p. nowhere channel xs p) where
  by : (b : Bool) → nat_eq channel x ≡ b → (p : ℕ) → ((q : ℕ) → is_at (others_than channel xs) q channel ≡ false)
      → is_at (cond (not b) (x ∷ others_than channel xs) (others_than channel xs)) p channel ≡ false
  by true is p rest = rest p
  by false is zero rest = nat_eq_apart channel x is
  by false is (suc p) rest = rest p

-- what stands from its place on
pub from_place : (channel : ℕ) (xs : List ℕ) (place : ℕ) → slice_get xs place ≡ Some channel → drop place xs ≡ channel ∷ drop (suc place) xs
from_place channel [] place there = absurd (cc there)
from_place channel (x ∷ xs) zero there = let same : x ≡ channel = cc there in ap (λ (n : ℕ). n ∷ xs) same
from_place channel (x ∷ xs) (suc place) there = from_place channel xs place there

-- where it is gone, the next one stands in its place
moved_up : (channel : ℕ) (xs : List ℕ) (place : ℕ) → IsDistinct nat_eq xs → slice_get xs place ≡ Some channel → drop place (others_than channel xs) ≡ drop (suc place) xs
moved_up channel [] place apart there = absurd (cc there)
moved_up channel (x ∷ xs) zero apart there =
    let same : x ≡ channel = cc there in
    let here : nat_eq channel x ≡ true = ap (nat_eq channel) same ∙ nat_eq_same channel in
    ap (λ (b : Bool). cond (not b) (x ∷ others_than channel xs) (others_than channel xs)) here
    ∙ all_others channel xs (subst (λ (n : ℕ). AllByRecursion (λ y. nat_eq n y ≡ false) xs) same (IsDistinct-head nat_eq x xs apart))
moved_up channel (x ∷ xs) (suc place) apart there =
    let other : nat_eq channel x ≡ false = nat_eq_apart x channel (among x channel xs place (IsDistinct-head nat_eq x xs apart) there) in
    ap (λ (b : Bool). drop (suc place) (cond (not b) (x ∷ others_than channel xs) (others_than channel xs))) other
    ∙ moved_up channel xs place (IsDistinct-tail nat_eq x xs apart) there

-- Behind a visit to the channel at a place, which left all that were numbers or all but this one, the next one stands where the search goes on.
pub next_stands : (channel : ℕ) (numbers numbers_now : List ℕ) (place : ℕ) → IsDistinct nat_eq numbers → slice_get numbers place ≡ Some channel → (numbers_now ≡ numbers) ⊎ (numbers_now ≡ others_than channel numbers)
    → drop place numbers ≡ channel ∷ drop (place_behind numbers_now place channel) numbers_now
next_stands channel numbers numbers_now place apart there left =
    let one : place + 1 ≡ suc place = omega arith in
    from_place channel numbers place there ∙ ap (λ (ns : List ℕ). channel ∷ ns) (elim left [
      | inl same ↦
          let here : is_at numbers_now place channel ≡ true = ap (λ (o : List ℕ). is_at o place channel) same ∙ ap (λ (o : Option ℕ). option_map_or (λ other. nat_eq other channel) o false) there ∙ nat_eq_same channel in
          ap (λ (o : List ℕ). drop (suc place) o) (sym same) ∙ sym (ap (λ (b : Bool). drop (cond b (place + 1) place) numbers_now) here ∙ ap (λ (n : ℕ). drop n numbers_now) one)
      | inr gone ↦
          let none : is_at numbers_now place channel ≡ false = ap (λ (o : List ℕ). is_at o place channel) gone ∙ nowhere channel numbers place in
          sym (ap (λ (b : Bool). drop (cond b (place + 1) place) numbers_now) none ∙ ap (λ (o : List ℕ). drop place o) gone ∙ moved_up channel numbers place apart there)
    ])

-- the first one that is gone stood before all that are left
pub first_gone : (channel : ℕ) (numbers numbers_now : List ℕ) → IsDistinct nat_eq numbers → slice_get numbers 0 ≡ Some channel → numbers_now ≡ others_than channel numbers → numbers ≡ channel ∷ numbers_now
first_gone channel numbers numbers_now apart there gone = from_place channel numbers zero there ∙ ap (λ (ns : List ℕ). channel ∷ ns) (sym (gone ∙ moved_up channel numbers zero apart there))

-- none stands where none is found
pub none_behind : (xs : List ℕ) (place : ℕ) → slice_get xs place ≡ None → drop place xs ≡ []
none_behind [] zero none = refl
none_behind [] (suc place) none = refl
none_behind (x ∷ xs) zero none = absurd (cc none)
none_behind (x ∷ xs) (suc place) none = none_behind xs place none
