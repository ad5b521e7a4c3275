-- Where no Level event is owed, each slot holds the level of its context.
use Rattle.std.proofs.Common.{◌≡◌, ℕ, zero, suc, ◌+◌, ◌/◌, ◌%◌, ◌<◌, ◌≤◌, Bool, true, false, cond, eqb, List, [], ◌∷◌, ◌++◌, Option, Some, None, refl, sym, ap, subst, ◌∙◌, arith, inl, inr}
use Rattle.std.specs.Prelude.{IfSome}
use Rattle.std.specs.List.{AllByRecursion, find, range_with_len}
use Rattle.std.specs.Map.{values_of}
use Rattle.std.specs.Option.{option_and_then, option_map, option_or}
use Rattle.std.proofs.lemmas.Bool.{cases_eq, eqb-true}
use Rattle.dl_events.specs.declared.event.Event.{Event}
use Rattle.dl_events.specs.declared.event.Event.TheVariants as event
use Rattle.dl_events.specs.declared.event.Why.{Why}
use Rattle.dl_model.specs.declared.context.Context.{Context}
use Rattle.dl_model.specs.declared.registry.LevelChange.{LevelChange}
use Rattle.dl_model.specs.declared.registry.Slot.{Slot}
use Rattle.dl_model.specs.Registry.{App, Registry, change_at, context_at, effective, first_change, has_place, level_at, numbers}
use Rattle.dl_model.specs.Journal.{IsSettled, registry_of, slots_of}
use Rattle.dl_model.specs.Setting.{Setting}
use Rattle.dl_model.proofs.OneMore.{registry-one, slot-other}
use Rattle.dl_model.proofs.Order.{in_order-registry_of}
use Rattle.dl_model.proofs.Lists.{find-passes}
use Rattle.dl_laws.proofs.SlotChanges.{same_change}

-- ---- where there is no first change there is none

both_none : {A : Type 0} (o rest : Option A) → option_or o rest ≡ None → (o ≡ None) × (rest ≡ None)
both_none None rest e = (refl, e)
both_none (Some x) rest e = absurd cc

none_changes : (slots : ℕ → Slot) (registry : Registry) (k a n : ℕ) → first_change slots registry (range_with_len a k) ≡ None → a ≤ n → n < a + k → change_at slots registry n ≡ None
none_changes slots registry zero a n e le lt = absurd (omega (arith, le, lt))
none_changes slots registry (suc k) a n e le lt =
    let parts = both_none (change_at slots registry a) (first_change slots registry (range_with_len (a + 1) k)) e in
    elim (cases_eq a n) [
      | inl same ↦ subst (λ (m : ℕ). change_at slots registry m ≡ None) same parts.0
      | inr apart ↦ none_changes slots registry k (a + 1) n parts.1 (omega (arith, le, apart)) (omega (arith, lt))
    ]

-- ---- slots that contexts have are below 1024

number_below : (test : App → Bool) (es : List (List ℕ × App)) (app : App) → find test (values_of es) ≡ Some app → AllByRecursion (λ (n : ℕ). n < 16) (numbers es) → app.number < 16
number_below test [] app found all = absurd cc
number_below test (e ∷ es) app found all = by_test (test e.1) found (λ is. number_below test es app is all.1) where
  by_test : (b : Bool) → cond b (Some e.1) (find test (values_of es)) ≡ Some app → (find test (values_of es) ≡ Some app → app.number < 16) → app.number < 16
  by_test true is later = let same : e.1 ≡ app = cc in subst (λ (x : App). x.number < 16) same all.0
  by_test false is later = later is

slot_below : (registry : Registry) (slot : ℕ) (context : Context) → AllByRecursion (λ (n : ℕ). n < 16) (numbers registry.apps) → context_at registry slot ≡ Some context → slot < 1024
slot_below registry slot context below found = by_app (find (λ (app : App). eqb app.number (slot / 64)) (values_of registry.apps)) refl found where
  by_app : (o : Option App) → find (λ (app : App). eqb app.number (slot / 64)) (values_of registry.apps) ≡ o
      → option_and_then (λ (app : App). find (has_place (slot % 64)) (values_of app.contexts)) o ≡ Some context → slot < 1024
  by_app None is e = absurd cc
  by_app (Some app) is e =
      let number : app.number ≡ slot / 64 = eqb-true app.number (slot / 64) (find-passes (λ (a : App). eqb a.number (slot / 64)) (values_of registry.apps) app is) in
      let small = number_below (λ (a : App). eqb a.number (slot / 64)) registry.apps app is below in
      omega (arith, number, small)

-- ---- a slot without a change

changes_not : (level own slot : ℕ) → ◌≡◌ {A = Option LevelChange} (cond (eqb level own) None (Some (record { slot = slot; level = own }))) None → level ≡ own
changes_not level own slot e = by_test (eqb level own) refl e where
  by_test : (b : Bool) → eqb level own ≡ b → ◌≡◌ {A = Option LevelChange} (cond b None (Some (record { slot = slot; level = own }))) None → level ≡ own
  by_test true is none = eqb-true level own is
  by_test false is none = absurd cc

slot_in_force : (registry : Registry) (slots : ℕ → Slot) (slot : ℕ) → AllByRecursion (λ (n : ℕ). n < 16) (numbers registry.apps) → first_change slots registry (range_with_len 0 1024) ≡ None →
    IfSome (level_at registry slot) (λ level. (slots slot).level ≡ level)
slot_in_force registry slots slot order settled = by_context (context_at registry slot) refl where
  by_context : (o : Option Context) → context_at registry slot ≡ o → IfSome (option_map (effective registry.level) o) (λ level. (slots slot).level ≡ level)
  by_context None is = tt
  by_context (Some context) is =
      let below = slot_below registry slot context order is in
      let none : change_at slots registry slot ≡ None = none_changes slots registry 1024 0 slot settled (omega arith) (omega (arith, below)) in
      let level : level_at registry slot ≡ Some (effective registry.level context) = ap (option_map (effective registry.level)) is in
      changes_not (slots slot).level (effective registry.level context) slot
      (sym (ap (option_and_then (λ (l : ℕ). cond (eqb (slots slot).level l) None (Some (record { slot = slot; level = l })))) level) ∙ none)

pub in_force : (setting : Setting) (events : List Event) → IsSettled setting events → (slot : ℕ) → IfSome (level_at (registry_of setting events) slot) (λ level. (slots_of setting events slot).level ≡ level)
in_force setting events settled slot = slot_in_force (registry_of setting events) (slots_of setting events) slot (in_order-registry_of setting events).numbered.below settled

-- ---- a client that goes changes no level

same_first : (slots others : ℕ → Slot) (registry other : Registry) (ns : List ℕ) → ((n : ℕ) → slots n ≡ others n) → registry ≡ other → first_change slots registry ns ≡ first_change others other ns
same_first slots others registry other [] same is = refl
same_first slots others registry other (n ∷ ns) same is =
    ap (λ (o : Option LevelChange). option_or o (first_change slots registry ns)) (same_change slots others registry other n (same n) is)
    ∙ ap (option_or (change_at others other n)) (same_first slots others registry other ns same is)

pub settled_close : (setting : Setting) (events : List Event) (client : ℕ) (cause : Why) → IsSettled setting events → IsSettled setting (events ++ event.Close client cause ∷ [])
settled_close setting events client cause settled =
    same_first (slots_of setting (events ++ event.Close client cause ∷ [])) (slots_of setting events) (registry_of setting (events ++ event.Close client cause ∷ [])) (registry_of setting events) (range_with_len 0 1024)
    (λ n. slot-other setting.first events n (event.Close client cause) refl) (registry-one setting events (event.Close client cause)) ∙ settled
