-- What holds of all numbers below one, with one number more.
use Rattle.std.proofs.Common.{◌≡◌, ℕ, ◌+◌, ◌<◌, inl, inr, List, length, set, sym, subst, arith}
use Rattle.std.specs.Prelude.{slice_index}
use Rattle.std.proofs.lemmas.Bool.{cases_eq}
use Rattle.std.proofs.lemmas.List.{get_or-set_same, get_or-set_other}

pub upto_one : (P : ℕ → Type 0) (n : ℕ) → ((k : ℕ) → k < n → P k) → P n → (k : ℕ) → k < n + 1 → P k
upto_one P n before here k below = elim (cases_eq k n) [
  | inl same ↦ subst P (sym same) here
  | inr apart ↦ before k (omega (arith, below, apart))
]

-- of a table in which the next number is put
pub table_upto : (P : ℕ → ℕ → Type 0) (table : List ℕ) (n at value : ℕ) → at ≡ n → n < length table → ((k : ℕ) → k < n → P k (slice_index table k)) → P n value
    → (k : ℕ) → k < n + 1 → P k (slice_index (set table at value) k)
table_upto P table n at value is within before here =
    subst (λ (a : ℕ). (k : ℕ) → k < n + 1 → P k (slice_index (set table a value) k)) (sym is)
    (upto_one (λ k. P k (slice_index (set table n value) k)) n
    (λ k below. subst (P k) (sym (get_or-set_other table n k value 0 (λ same. omega (arith, below, same)))) (before k below))
    (subst (P n) (sym (get_or-set_same table n value 0 within)) here))
