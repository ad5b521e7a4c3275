-- A context set at a place: what stands there, and what its counts and levels come to.
use Rattle.std.proofs.Common.{List, Some, ap, arith, cond, false, inl, inr, refl, slice_get, subst, sym, true, ℕ, ◌+◌, ◌∙◌, ◌≡◌, ◌⊎◌}
use Rattle.std.proofs.lemmas.Bool.{cases_eq}
use Rattle.std.proofs.lemmas.Bool.Decides.{eqb_tells}
use Rattle.std.specs.Prelude.{nat_eq, slice_set}
use Rattle.dl_lemmas.proofs.Lists.{set_here, set_other}
use Rattle.dl_lemmas.proofs.Options.{one_is}
use Rattle.dl_client.specs.Law.{Fate, count_at, count_of, level_at, where_same}
use Rattle.dl_client.specs.Outcomes.{NoneLostBelow}
use Rattle.dl_client.specs.Program.{NoneLost}
use Rattle.dl_client.specs.declared.context.Context.{Context}

pub at_place : (xs : List Context) (p place : ℕ) (c now : Context) → slice_get xs p ≡ Some c
    → ((nat_eq p place ≡ true) × (slice_get (slice_set xs p now) place ≡ Some now) × (slice_get xs place ≡ Some c))
    ⊎ ((nat_eq p place ≡ false) × (slice_get (slice_set xs p now) place ≡ slice_get xs place))
at_place xs p place c now at = elim (eqb_tells p place) [
  | inl same ↦ inl (
    same.0,
    subst (λ (k : ℕ). slice_get (slice_set xs p now) k ≡ Some now) same.1 (set_here xs p c now at),
    subst (λ (k : ℕ). slice_get xs k ≡ Some c) same.1 at,
  )
  | inr apart ↦ inr (apart.0, set_other xs p place now (λ (e : place ≡ p). apart.1 (sym e)))
]

pub moved : (fate : Fate) (xs : List Context) (p place : ℕ) (c now : Context) → slice_get xs p ≡ Some c → count_of fate now ≡ count_of fate c + 1
    → count_at fate (slice_get (slice_set xs p now) place) ≡ count_at fate (slice_get xs place) + where_same place p 1
moved fate xs p place c now at more = elim (at_place xs p place c now at) [
  | inl here ↦ rw here.1 (rw here.2 (rw here.0 more))
  | inr other ↦ rw other.1 (rw other.0 (omega arith))
]

pub unmoved : (fate : Fate) (xs : List Context) (p place : ℕ) (c now : Context) → slice_get xs p ≡ Some c → count_of fate now ≡ count_of fate c
    → count_at fate (slice_get (slice_set xs p now) place) ≡ count_at fate (slice_get xs place)
unmoved fate xs p place c now at same = elim (at_place xs p place c now at) [
  | inl here ↦ rw here.1 (rw here.2 same)
  | inr other ↦ ap (count_at fate) other.1
]

pub emptied : (fate : Fate) (xs : List Context) (p place : ℕ) (c now : Context) → slice_get xs p ≡ Some c → count_of fate now ≡ 0
    → where_same place p (count_of fate c) + count_at fate (slice_get (slice_set xs p now) place) ≡ count_at fate (slice_get xs place)
emptied fate xs p place c now at none = elim (at_place xs p place c now at) [
  | inl here ↦ rw here.1 (rw here.2 (rw here.0 (omega (arith, none))))
  | inr other ↦ rw other.1 (rw other.0 (omega arith))
]

pub level_same : (xs : List Context) (p place : ℕ) (c now : Context) → slice_get xs p ≡ Some c → now.level ≡ c.level
    → level_at (slice_get (slice_set xs p now) place) ≡ level_at (slice_get xs place)
level_same xs p place c now at same = elim (at_place xs p place c now at) [
  | inl here ↦ rw here.1 (rw here.2 same)
  | inr other ↦ ap level_at other.1
]

pub level_moved : (xs : List Context) (p place : ℕ) (c now : Context) → slice_get xs p ≡ Some c
    → level_at (slice_get (slice_set xs p now) place) ≡ cond (nat_eq p place) now.level (level_at (slice_get xs place))
level_moved xs p place c now at = elim (at_place xs p place c now at) [
  | inl here ↦ rw here.1 (rw here.0 refl)
  | inr other ↦ rw other.1 (rw other.0 refl)
]

pub set_below : (xs : List Context) (n : ℕ) (c now : Context) → slice_get xs n ≡ Some c → now.lost ≡ 0 → NoneLostBelow n xs → NoneLostBelow (n + 1) (slice_set xs n now)
set_below xs n c now at none below place context less is = elim (cases_eq place n) [
  | inl same ↦
      let here : slice_get (slice_set xs n now) n ≡ Some context = subst (λ (k : ℕ). slice_get (slice_set xs n now) k ≡ Some context) same is in
      ap (λ (x : Context). x.lost) (one_is context now (slice_get (slice_set xs n now) n) here (set_here xs n c now at)) ∙ none
  | inr apart ↦ below place context (omega (arith, less, apart)) (sym (set_other xs n place now apart) ∙ is)
]

pub stays_below : (xs : List Context) (n : ℕ) (c : Context) → slice_get xs n ≡ Some c → c.lost ≡ 0 → NoneLostBelow n xs → NoneLostBelow (n + 1) xs
stays_below xs n c at none below place context less is = elim (cases_eq place n) [
  | inl same ↦
      let here : slice_get xs n ≡ Some context = subst (λ (k : ℕ). slice_get xs k ≡ Some context) same is in
      ap (λ (x : Context). x.lost) (one_is context c (slice_get xs n) here at) ∙ none
  | inr apart ↦ below place context (omega (arith, less, apart)) is
]
