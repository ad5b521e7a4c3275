-- Levels that are written into the table, slot by slot.
use Rattle.std.proofs.Common.{◌≡◌, inl, inr, ℕ, ◌+◌, ◌<◌, ◌≤◌, Bool, true, false, cond, List, [], ◌∷◌, ◌++◌, length, map, reverse, take, get_or, Option, Some, refl, sym, ap, ◌∙◌, arith}
use Rattle.std.specs.Prelude.{◌==◌, ◌||◌}
use Rattle.std.specs.List.{find, list_any}
use Rattle.std.specs.Option.{option_map, option_or}
use Rattle.std.proofs.lemmas.Bool.{cases_lt}
use Rattle.std.proofs.lemmas.Bool.Decides.{eqb_tells}
use Rattle.std.proofs.lemmas.List.{map-append, reverse-append, take_more}
use Rattle.std.proofs.lemmas.List.Folds.{list_any-append}
use Rattle.dl_model.specs.declared.context.Context.{Context}
use Rattle.dl_model.specs.Registry.{effective}
use Rattle.dl_registry.specs.Refresh.{has_slot, level_among}
use Rattle.dl_registry.specs.Table.{Table, wanted_at}

-- one after the other is one or the other
pub joined : {A : Type 0} (a b : Bool) (level old : A) → cond b level (cond a level old) ≡ cond (a || b) level old
joined true true level old = refl
joined true false level old = refl
joined false b level old = refl

-- a slot that is beyond the table is none of it
pub given_one : (t u : Table) (at level slot : ℕ) → ((other : ℕ) → at < 1024 → wanted_at u other ≡ cond (other == at) (Some level) (wanted_at t other)) → (1024 ≤ at → u ≡ t) → slot < 1024
    → wanted_at u slot ≡ cond (slot == at) (Some level) (wanted_at t slot)
given_one t u at level slot levels outside within = elim (cases_lt at 1024) [
  | inl lt ↦ levels slot lt
  | inr ge ↦ elim (eqb_tells slot at) [
    | inl same ↦ absurd (omega (arith, same.1))
    | inr other ↦ ap (λ (x : Table). wanted_at x slot) (outside ge) ∙ sym (ap (λ b. cond b (Some level) (wanted_at t slot)) other.0)
  ]
]

-- one place more
pub any_more : (test : ℕ → Bool) (ns : List ℕ) (i d : ℕ) → i < length ns → list_any test (take (i + 1) ns) ≡ (list_any test (take i ns) || test (get_or ns i d))
any_more test ns i d within = ap (list_any test) (take_more ns i d within) ∙ (list_any-append test (take i ns) (get_or ns i d ∷ []) ∙ ap (λ b. list_any test (take i ns) || b) (alone (test (get_or ns i d)))) where
  alone : (b : Bool) → (b || false) ≡ b
  alone true = refl
  alone false = refl

-- ---- contexts one after the other

-- one context more, the last first
pub among_more : {X : Type 0} (f : X → Context) (level number : ℕ) (ys : List X) (x : X) (slot : ℕ)
    → level_among level number (reverse (map f (ys ++ x ∷ []))) slot ≡ cond (has_slot number slot (f x)) (Some (effective level (f x))) (level_among level number (reverse (map f ys)) slot)
among_more f level number ys x slot =
    ap (λ cs. level_among level number cs slot) (ap reverse (map-append f ys (x ∷ [])) ∙ reverse-append (map f ys) (f x ∷ [])) ∙ by (has_slot number slot (f x))
  where
    by : (b : Bool) → option_map (effective level) (cond b (Some (f x)) (find (has_slot number slot) (reverse (map f ys)))) ≡ cond b (Some (effective level (f x))) (level_among level number (reverse (map f ys)) slot)
    by true = refl
    by false = refl

-- written over what was there
pub written_more : (b : Bool) (level : ℕ) (among old : Option ℕ) → cond b (Some level) (option_or among old) ≡ option_or (cond b (Some level) among) old
written_more true level among old = refl
written_more false level among old = refl
