-- Numbers and their tests.
use Rattle.std.proofs.Common.{ap, arith, false, inl, inr, refl, sym, true, true≢false, ℕ, ◌+◌, ◌-◌, ◌<◌, ◌==◌, ◌∙◌, ◌≡◌}
use Rattle.std.proofs.lemmas.Bool.{eq-eqb, ne_eqb}
use Rattle.std.proofs.lemmas.Bool.Decides.{eqb_tells}
use Rattle.std.specs.Prelude.{nat_eq, nat_lt}

pub all_or_some : (left took size : ℕ) → size ≡ took + left → (left == 0) ≡ (size == took)
all_or_some left took size is = elim (eqb_tells left 0) [
  | inl none ↦ none.0 ∙ sym (eq-eqb size took (omega (arith, is, none.1)))
  | inr some ↦ some.0 ∙ sym (ne_eqb size took (λ same. some.1 (omega (arith, is, same))))
]

pub nat_eq_same : (n : ℕ) → nat_eq n n ≡ true
nat_eq_same n = elim (eqb_tells n n) [ inl same ↦ same.0 | inr apart ↦ absurd (apart.1 refl) ]

pub above_zero : (n : ℕ) → 0 < n → nat_lt 0 n ≡ true
above_zero n some = grind arith

pub nat_eq_apart : (a b : ℕ) → nat_eq a b ≡ false → nat_eq b a ≡ false
nat_eq_apart a b apart = elim (eqb_tells b a) [
  | inl same ↦ absurd (true≢false (sym (ap (nat_eq a) same.1 ∙ nat_eq_same a) ∙ apart))
  | inr other ↦ other.0
]
