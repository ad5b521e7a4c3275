-- Something was taken just where more events of programs are noted.
use Rattle.std.proofs.Common.{◌≡◌, ◌≢◌, ◌⊎◌, ℕ, ◌+◌, ◌<◌, ◌≤◌, Bool, true, false, cond, eqb, inl, inr, refl, sym, ap, ◌∙◌, arith, true≢false}
use Rattle.std.specs.Prelude.{◌||◌, nat_lt, not}
use Rattle.std.proofs.lemmas.Bool.{le-ltb, lt-ltb}
use Rattle.std.proofs.lemmas.Bool.Decides.{eqb_tells}
use Rattle.std.proofs.Math.Bool.{or-false, or-true}

module _ (first was now : ℕ) (moved : Bool) (on : first ≤ was) (is : moved ≡ nat_lt first was) where
  some : was < now → (moved || true) ≡ nat_lt first now
  some more = or-true moved ∙ sym (lt-ltb first now (omega (arith, on, more)))

  none : now ≡ was → (moved || false) ≡ nat_lt first now
  none same = or-false moved ∙ is ∙ ap (λ n. nat_lt first n) (sym same)

pub none_taken : (first : ℕ) → false ≡ nat_lt first first
none_taken first = sym (le-ltb first first (omega arith))

-- A turn goes on with it, where so many events were noted first, before the turn, behind its calls and behind its losses.
pub still_taken : (first was mid now calls losses : ℕ) (moved : Bool) → first ≤ was → moved ≡ nat_lt first was → mid ≡ was + calls → now ≡ mid + cond (eqb losses 0) 0 1
    → ((moved || not (eqb calls 0)) || not (eqb losses 0)) ≡ nat_lt first now
still_taken first was mid now calls losses moved on is took lost = by (eqb calls 0) (eqb losses 0) (eqb_tells calls 0) lost refl refl where
  by : (c l : Bool) → ((eqb calls 0 ≡ true) × (calls ≡ 0)) ⊎ ((eqb calls 0 ≡ false) × (calls ≢ 0)) → now ≡ mid + cond l 0 1 → eqb calls 0 ≡ c → eqb losses 0 ≡ l
      → ((moved || not c) || not l) ≡ nat_lt first now
  by true true tells so here there = elim tells [
    | inl zero ↦ ap (λ (b : Bool). b || false) (or-false moved) ∙ none first was now moved on is (omega (arith, took, so, zero.1))
    | inr apart ↦ absurd (true≢false (sym here ∙ apart.0))
  ]
  by true false tells so here there = or-true (moved || false) ∙ sym (or-true moved) ∙ some first was now moved on is (omega (arith, took, so))
  by false l tells so here there = elim tells [
    | inl zero ↦ absurd (true≢false (sym zero.0 ∙ here))
    | inr apart ↦ ap (λ (b : Bool). b || not l) (or-true moved) ∙ sym (or-true moved) ∙ some first was now moved on is (omega (arith, took, so, apart.1))
  ]
