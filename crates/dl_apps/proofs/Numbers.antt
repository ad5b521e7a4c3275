-- Numbers below a limit, no two the same: the least free one, and how many there are.
use Rattle.std.proofs.Common.{◌≡◌, ℕ, ◌<◌, ◌≤◌, inl, inr, true, false, List, [], ◌∷◌, ◌++◌, length, sym, true≢false, ◌∙◌, arith, length-append}
use Rattle.std.specs.Prelude.{nat_eq}
use Rattle.std.specs.List.{list_any}
use Rattle.std.specs.Cmp.{nat_eq_equiv}
use Rattle.std.proofs.lemmas.Bool.{cases_lt}
use Rattle.std.proofs.lemmas.Map.Keys.{IsDistinct-push}
use Rattle.std.proofs.lemmas.Map.Steps.{le-length_from_below}
use Rattle.dl_lemmas.proofs.Lists.{all_end}
use Rattle.dl_model.specs.Registry.{least_free, IsNumbered}
use Rattle.dl_model.proofs.Numbered.{below_least_free, least_free-is_free, IsNumbered-length}

-- a number that isn't used, where each smaller one is, is the least free one
pub least_free_is : (used : List ℕ) (n : ℕ) → list_any (nat_eq n) used ≡ false → ((k : ℕ) → k < n → list_any (nat_eq k) used ≡ true) → n ≡ least_free used
least_free_is used n free below = elim (cases_lt n (least_free used)) [
  | inl less ↦ absurd (true≢false (sym (below_least_free used n less) ∙ free))
  | inr more ↦ elim (cases_lt (least_free used) n) [
    | inl less ↦ absurd (true≢false (sym (below (least_free used) less) ∙ least_free-is_free used))
    | inr same ↦ omega arith
  ]
]

-- where a number below the limit isn't used, there is room
pub room_left : (limit : ℕ) (used : List ℕ) (n : ℕ) → IsNumbered limit used → n < limit → list_any (nat_eq n) used ≡ false → length used < limit
room_left limit used n is below free =
    let more : length (used ++ n ∷ []) ≤ limit = IsNumbered-length limit (used ++ n ∷ []) (record {
      apart = IsDistinct-push nat_eq_equiv used n is.apart free;
      below = all_end (λ k. k < limit) used n is.below below;
    }) in
    omega (arith, length-append used (n ∷ []))

-- where each number below the limit is used, there is none
pub none_left : (limit : ℕ) (used : List ℕ) → ((k : ℕ) → k < limit → list_any (nat_eq k) used ≡ true) → limit ≤ length used
none_left limit used all = le-length_from_below used limit all
