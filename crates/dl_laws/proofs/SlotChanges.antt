-- The change that a slot waits for, and when it waits for none.
use Rattle.std.proofs.Common.{◌≡◌, ℕ, Bool, true, false, cond, eqb, Option, Some, None, refl, sym, ap, ◌∙◌}
use Rattle.std.specs.Option.{option_and_then}
use Rattle.std.proofs.lemmas.Bool.{eq-eqb}
use Rattle.dl_model.specs.declared.registry.LevelChange.{LevelChange}
use Rattle.dl_model.specs.declared.registry.Slot.{Slot}
use Rattle.dl_model.specs.Registry.{Registry, level_at, change_at}

-- the change of a slot: its context's level, where the slot's is another one
changed_by : (slot level n : ℕ) (b : Bool) (c : LevelChange) → cond b None (Some (record { slot = slot; level = level })) ≡ Some c → (c.slot ≡ slot) × (c.level ≡ level)
changed_by slot level n true c e = absurd cc
changed_by slot level n false c e =
    let made : LevelChange = record { slot = slot; level = level } in
    let same : made ≡ c = cc in
    (ap (λ (x : LevelChange). x.slot) (sym same), ap (λ (x : LevelChange). x.level) (sym same))

pub change_is : (slots : ℕ → Slot) (registry : Registry) (n : ℕ) (c : LevelChange) → change_at slots registry n ≡ Some c → (c.slot ≡ n) × (level_at registry n ≡ Some c.level)
change_is slots registry n c e = by_level (level_at registry n) refl e where
  by_level : (o : Option ℕ) → level_at registry n ≡ o → option_and_then (λ level. cond (eqb (slots n).level level) None (Some (record { slot = n; level = level }))) o ≡ Some c →
      (c.slot ≡ n) × (level_at registry n ≡ Some c.level)
  by_level None is e = absurd cc
  by_level (Some level) is e = let parts = changed_by n level n (eqb (slots n).level level) c e in (parts.0, is ∙ ap Some (sym parts.1))

pub no_change : (slots : ℕ → Slot) (registry : Registry) (n level : ℕ) → level_at registry n ≡ Some level → (slots n).level ≡ level → change_at slots registry n ≡ None
no_change slots registry n level is same =
    ap (option_and_then (λ l. cond (eqb (slots n).level l) None (Some (record { slot = n; level = l })))) is
    ∙ ap (λ b. cond b None (Some (record { slot = n; level = level }))) (eq-eqb (slots n).level level same)

-- another slot, another registry, with the same in them
pub same_change : (slots others : ℕ → Slot) (registry other : Registry) (n : ℕ) → slots n ≡ others n → registry ≡ other → change_at slots registry n ≡ change_at others other n
same_change slots others registry other n same is =
    ap (λ (s : Slot). option_and_then (λ l. cond (eqb s.level l) None (Some (record { slot = n; level = l }))) (level_at registry n)) same
    ∙ ap (λ (r : Registry). change_at others r n) is
