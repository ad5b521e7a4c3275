-- The effective levels after each change of the registry, and that the table has them.
use Rattle.std.proofs.Common.{◌≡◌, ◌⊎◌, inl, inr, ℕ, ◌/◌, ◌%◌, ◌<◌, ◌≢◌, Bool, true, false, cond, List, [], ◌∷◌, Option, Some, None, refl, sym, ap, ◌∙◌, arith}
use Rattle.std.specs.Prelude.{nat_eq, ◌==◌, ◌||◌}
use Rattle.std.specs.List.{AllByRecursion, find, list_any}
use Rattle.std.specs.Map.{lookup, remove_entry, set_value, values_of}
use Rattle.std.proofs.lemmas.List.Folds.{list_any-append}
use Rattle.std.specs.Option.{option_and_then, option_map, option_or}
use Rattle.std.specs.Str.{bytes_eq}
use Rattle.std.proofs.lemmas.Bool.Decides.{eqb_tells}
use Rattle.dl_model.specs.declared.context.Context.{Context}
use Rattle.dl_model.specs.declared.registry.Slot.{Slot}
use Rattle.dl_bytes.specs.Limits.{last_version}
use Rattle.dl_model.specs.Registry.{App, Registry, IsInOrder, IsNumbered, context_of, effective, has_place, level_at, places, places_of, slot_of, with_app, with_new_app, with_context, with_new_context, without}
use Rattle.dl_registry.specs.Table.{Table, held_at, wanted_at, differing}
use Rattle.dl_apps.specs.Change.{context_told_again, placed_again, without_context}
use Rattle.dl_registry.specs.Kept.{Fits}
use Rattle.dl_registry.proofs.Finding.{valued, valued-push, valued-found, valued-set_value, valued-remove}
use Rattle.dl_registry.proofs.Placing.{placed, placed-push, placed-found, placed-free, placed-set_value, placed-remove}

-- the level of the context that an application has at a slot
abbrev pub level_of : ℕ → Option App → ℕ → Option ℕ
level_of level app slot = option_map (effective level) (option_and_then (λ a. find (has_place (slot % 64)) (values_of a.contexts)) app)

-- ---- places and slots of an application

same_test : (number slot place : ℕ) → number ≡ slot / 64 → place < 64 → (slot % 64 == place) ≡ (slot == slot_of number place)
same_test number slot place here below = elim (eqb_tells (slot % 64) place) [
  | inl a ↦ elim (eqb_tells slot (slot_of number place)) [ inl b ↦ a.0 ∙ sym b.0 | inr b ↦ absurd (b.1 (omega (arith, here, a.1))) ]
  | inr a ↦ elim (eqb_tells slot (slot_of number place)) [ inl b ↦ absurd (a.1 (omega (arith, here, b.1))) | inr b ↦ a.0 ∙ sym b.0 ]
]

other_test : (number slot place : ℕ) → number ≢ slot / 64 → place < 64 → (slot == slot_of number place) ≡ false
other_test number slot place other below = elim (eqb_tells slot (slot_of number place)) [ inl b ↦ absurd (other (omega (arith, b.1))) | inr b ↦ b.0 ]

pub same_tests : (number slot : ℕ) → number ≡ slot / 64 → (ns : List ℕ) → AllByRecursion (λ n. n < 64) ns → list_any (nat_eq (slot % 64)) ns ≡ list_any (λ n. slot == slot_of number n) ns
same_tests number slot here [] below = refl
same_tests number slot here (n ∷ ns) below =
    ap (λ b. b || list_any (nat_eq (slot % 64)) ns) (same_test number slot n here below.0) ∙ ap (λ b. (slot == slot_of number n) || b) (same_tests number slot here ns below.1)

pub other_tests : (number slot : ℕ) → number ≢ slot / 64 → (ns : List ℕ) → AllByRecursion (λ n. n < 64) ns → list_any (λ n. slot == slot_of number n) ns ≡ false
other_tests number slot other [] below = refl
other_tests number slot other (n ∷ ns) below =
    ap (λ b. b || list_any (λ m. slot == slot_of number m) ns) (other_test number slot n other below.0) ∙ other_tests number slot other ns below.1

-- ---- an application in the place of another one of the same number

module _ (r : Registry) (apid : List ℕ) (old new : App) (is : IsInOrder r) (found : lookup (bytes_eq apid) r.apps ≡ Some old) (same : new.number ≡ old.number) where
  pub level_at-found : (slot : ℕ) → old.number ≡ slot / 64 → level_at r slot ≡ level_of r.level (Some old) slot
  level_at-found slot number =
      ap (λ o. level_of r.level o slot)
      (ap (λ n. valued (λ (a : App). a.number) n r.apps) (sym number) ∙ valued-found (λ (a : App). a.number) (bytes_eq apid) r.apps old found is.numbered.apart)

  pub level_at-replaced : (slot : ℕ) → level_at (with_app r apid new) slot ≡ cond (old.number == slot / 64) (level_of r.level (Some new) slot) (level_at r slot)
  level_at-replaced slot =
      ap (λ o. level_of r.level o slot) (valued-set_value (λ (a : App). a.number) (slot / 64) (bytes_eq apid) r.apps old new found same is.numbered.apart)
      ∙ by (old.number == slot / 64)
    where
      by : (b : Bool) → level_of r.level (cond b (Some new) (valued (λ (a : App). a.number) (slot / 64) r.apps)) slot ≡ cond b (level_of r.level (Some new) slot) (level_at r slot)
      by true = refl
      by false = refl

  -- its contexts have the levels that they had
  pub level_at-same : ((slot : ℕ) → level_of r.level (Some new) slot ≡ level_of r.level (Some old) slot) → (slot : ℕ) → level_at (with_app r apid new) slot ≡ level_at r slot
  level_at-same levels slot = level_at-replaced slot ∙ elim (eqb_tells old.number (slot / 64)) [
    | inl here ↦ ap (λ b. cond b (level_of r.level (Some new) slot) (level_at r slot)) here.0 ∙ (levels slot ∙ sym (level_at-found slot here.1))
    | inr other ↦ ap (λ b. cond b (level_of r.level (Some new) slot) (level_at r slot)) other.0
  ]

  -- some of its places have another level
  pub level_at-places : (ns : List ℕ) (level : Option ℕ) → AllByRecursion (λ n. n < 64) ns
      → ((slot : ℕ) → level_of r.level (Some new) slot ≡ cond (list_any (nat_eq (slot % 64)) ns) level (level_of r.level (Some old) slot))
      → (slot : ℕ) → level_at (with_app r apid new) slot ≡ cond (list_any (λ n. slot == slot_of old.number n) ns) level (level_at r slot)
  level_at-places ns level below levels slot = level_at-replaced slot ∙ elim (eqb_tells old.number (slot / 64)) [
    | inl here ↦
        ap (λ b. cond b (level_of r.level (Some new) slot) (level_at r slot)) here.0
        ∙ (levels slot
        ∙ (ap (cond (list_any (nat_eq (slot % 64)) ns) level) (sym (level_at-found slot here.1))
        ∙ ap (λ b. cond b level (level_at r slot)) (same_tests old.number slot here.1 ns below)))
    | inr other ↦
        ap (λ b. cond b (level_of r.level (Some new) slot) (level_at r slot)) other.0 ∙ sym (ap (λ b. cond b level (level_at r slot)) (other_tests old.number slot other.1 ns below))
  ]

-- ---- an application that comes, and one that goes

pub level_at-new_app : (r : Registry) (apid : List ℕ) (channel number pid : ℕ) (text : List ℕ) (slot : ℕ)
    → level_at (with_new_app r apid (record { channel = channel; number = number; pid = pid; text = text; contexts = [] })) slot ≡ level_at r slot
level_at-new_app r apid channel number pid text slot =
    ap (λ o. level_of r.level o slot) (valued-push (λ (a : App). a.number) (slot / 64) r.apps apid new)
    ∙ by (valued (λ (a : App). a.number) (slot / 64) r.apps) (number == slot / 64)
  where
    new : App
    new = record { channel = channel; number = number; pid = pid; text = text; contexts = [] }

    by : (o : Option App) (b : Bool) → level_of r.level (option_or o (cond b (Some (record { channel = channel; number = number; pid = pid; text = text; contexts = [] })) None)) slot ≡ level_of r.level o slot
    by None true = refl
    by None false = refl
    by (Some x) b = refl

pub level_at-without : (r : Registry) (apid : List ℕ) (app : App) → IsInOrder r → lookup (bytes_eq apid) r.apps ≡ Some app → remove_entry (bytes_eq apid) r.apps ≡ without apid r.apps
    → (slot : ℕ) → level_at (record r { apps = without apid r.apps }) slot ≡ cond (app.number == slot / 64) None (level_at r slot)
level_at-without r apid app is found removed slot =
    ap (λ es. level_of r.level (valued (λ (a : App). a.number) (slot / 64) es) slot) (sym removed)
    ∙ (ap (λ o. level_of r.level o slot) (valued-remove (λ (a : App). a.number) (slot / 64) (bytes_eq apid) r.apps app found is.numbered.apart)
    ∙ by (app.number == slot / 64))
  where
    by : (b : Bool) → level_of r.level (cond b None (valued (λ (a : App). a.number) (slot / 64) r.apps)) slot ≡ cond b None (level_at r slot)
    by true = refl
    by false = refl

-- ---- a context of an application

-- changed, with its places and maybe others, it has its level at all of them
pub level_of-changed : (level : ℕ) (app : App) (ctid : List ℕ) (old new : Context) → context_of app ctid ≡ Some old → IsNumbered 64 (places (set_value (bytes_eq ctid) app.contexts new))
    → ((n : ℕ) → has_place n old ≡ true → has_place n new ≡ true)
    → (slot : ℕ) → level_of level (Some (with_context app ctid new)) slot ≡ cond (has_place (slot % 64) new) (Some (effective level new)) (level_of level (Some app) slot)
level_of-changed level app ctid old new found is keeps slot =
    ap (option_map (effective level)) (placed-set_value places_of (slot % 64) (bytes_eq ctid) app.contexts old new found is.apart (keeps (slot % 64)))
    ∙ by (has_place (slot % 64) new)
  where
    by : (b : Bool) → option_map (effective level) (cond b (Some new) (placed places_of (slot % 64) app.contexts)) ≡ cond b (Some (effective level new)) (level_of level (Some app) slot)
    by true = refl
    by false = refl

-- at its own places an application has its level
pub level_of-own : (level : ℕ) (app : App) (ctid : List ℕ) (context : Context) → context_of app ctid ≡ Some context → IsNumbered 64 (places app.contexts)
    → (slot : ℕ) → has_place (slot % 64) context ≡ true → level_of level (Some app) slot ≡ Some (effective level context)
level_of-own level app ctid context found is slot here = ap (option_map (effective level)) (placed-found places_of (slot % 64) (bytes_eq ctid) app.contexts context found is.apart here)

-- told anew it has its level
pub level_of-told : (level : ℕ) (app : App) (ctid : List ℕ) (context : Context) (position : ℕ) (text : List ℕ) → IsNumbered 64 (places app.contexts)
    → IsNumbered 64 (places (set_value (bytes_eq ctid) app.contexts (context_told_again position text context))) → context_of app ctid ≡ Some context
    → (slot : ℕ) → level_of level (Some (with_context app ctid (context_told_again position text context))) slot ≡ level_of level (Some app) slot
level_of-told level app ctid context position text was is found slot =
    level_of-changed level app ctid context (context_told_again position text context) found is (λ n here. here) slot ∙ by (has_place (slot % 64) context) refl
  where
    by : (b : Bool) → has_place (slot % 64) context ≡ b → cond b (Some (effective level context)) (level_of level (Some app) slot) ≡ level_of level (Some app) slot
    by true here = sym (level_of-own level app ctid context found was slot here)
    by false here = refl

-- with a further place, it has its level there
pub level_of-further : (level : ℕ) (app : App) (ctid : List ℕ) (context : Context) (place : ℕ) → IsNumbered 64 (places app.contexts)
    → IsNumbered 64 (places (set_value (bytes_eq ctid) app.contexts (placed_again place context))) → context_of app ctid ≡ Some context
    → (slot : ℕ) → level_of level (Some (with_context app ctid (placed_again place context))) slot
    ≡ cond (list_any (nat_eq (slot % 64)) (place ∷ [])) (Some (effective level context)) (level_of level (Some app) slot)
level_of-further level app ctid context place was is found slot =
    level_of-changed level app ctid context (placed_again place context) found is (λ n here. more n ∙ ap (λ b. b || list_any (nat_eq n) (place ∷ [])) here) slot
    ∙ (ap (λ b. cond b (Some (effective level context)) (level_of level (Some app) slot)) (more (slot % 64)) ∙ by (has_place (slot % 64) context) refl)
  where
    more : (n : ℕ) → has_place n (placed_again place context) ≡ (has_place n context || list_any (nat_eq n) (place ∷ []))
    more n = list_any-append (nat_eq n) (places_of context) (place ∷ [])

    by : (b : Bool) → has_place (slot % 64) context ≡ b
        → cond (b || list_any (nat_eq (slot % 64)) (place ∷ [])) (Some (effective level context)) (level_of level (Some app) slot)
        ≡ cond (list_any (nat_eq (slot % 64)) (place ∷ [])) (Some (effective level context)) (level_of level (Some app) slot)
    by false here = refl
    by true here = same (list_any (nat_eq (slot % 64)) (place ∷ [])) where
      same : (c : Bool) → Some (effective level context) ≡ cond c (Some (effective level context)) (level_of level (Some app) slot)
      same true = refl
      same false = sym (level_of-own level app ctid context found was slot here)

-- a new one, at a place that was free, has its own
pub level_of-new : (level : ℕ) (app : App) (ctid : List ℕ) (context : Context) → context.further ≡ [] → list_any (nat_eq context.place) (places app.contexts) ≡ false
    → (slot : ℕ) → level_of level (Some (with_new_context app ctid context)) slot
    ≡ cond (list_any (nat_eq (slot % 64)) (context.place ∷ [])) (Some (effective level context)) (level_of level (Some app) slot)
level_of-new level app ctid context alone free slot =
    ap (option_map (effective level)) (placed-push places_of (slot % 64) app.contexts ctid context)
    ∙ (ap (λ (ns : List ℕ). option_map (effective level) (option_or (placed places_of (slot % 64) app.contexts) (cond (list_any (nat_eq (slot % 64)) (context.place ∷ ns)) (Some context) None))) alone
    ∙ elim (eqb_tells (slot % 64) context.place) [
      | inl here ↦
          let none : placed places_of (slot % 64) app.contexts ≡ None = ap (λ n. placed places_of n app.contexts) here.1 ∙ placed-free places_of context.place app.contexts free in
          ap (λ o. option_map (effective level) (option_or o (cond (list_any (nat_eq (slot % 64)) (context.place ∷ [])) (Some context) None))) none
          ∙ (ap (λ b. option_map (effective level) (cond (b || false) (Some context) None)) here.0
          ∙ sym (ap (λ b. cond (b || false) (Some (effective level context)) (level_of level (Some app) slot)) here.0))
      | inr other ↦
          ap (λ b. option_map (effective level) (option_or (placed places_of (slot % 64) app.contexts) (cond (b || false) (Some context) None))) other.0
          ∙ (or_none (placed places_of (slot % 64) app.contexts)
          ∙ sym (ap (λ b. cond (b || false) (Some (effective level context)) (level_of level (Some app) slot)) other.0))
    ])
  where
    or_none : (o : Option Context) → option_map (effective level) (option_or o None) ≡ option_map (effective level) o
    or_none None = refl
    or_none (Some x) = refl

-- one that goes has none
pub level_of-gone : (level : ℕ) (app : App) (ctid : List ℕ) (context : Context) → IsNumbered 64 (places app.contexts) → context_of app ctid ≡ Some context
    → remove_entry (bytes_eq ctid) app.contexts ≡ without ctid app.contexts
    → (slot : ℕ) → level_of level (Some (without_context ctid app)) slot ≡ cond (list_any (nat_eq (slot % 64)) (places_of context)) None (level_of level (Some app) slot)
level_of-gone level app ctid context is found removed slot =
    ap (λ es. option_map (effective level) (placed places_of (slot % 64) es)) (sym removed)
    ∙ (ap (option_map (effective level)) (placed-remove places_of (slot % 64) (bytes_eq ctid) app.contexts context found is.apart)
    ∙ by (has_place (slot % 64) context))
  where
    by : (b : Bool) → option_map (effective level) (cond b None (placed places_of (slot % 64) app.contexts)) ≡ cond b None (level_of level (Some app) slot)
    by true = refl
    by false = refl

-- ---- the table

-- A table fits that has the new levels, where each slot at its last version has the level that it had, or none.
pub fits : (r s : Registry) (t u : Table) → Fits r t → IsInOrder s → u.first ≡ t.first → u.held ≡ t.held → ((slot : ℕ) → wanted_at u slot ≡ level_at s slot)
    → ((slot : ℕ) → (held_at t.first t.held slot).version ≡ last_version → (level_at s slot ≡ level_at r slot) ⊎ (level_at s slot ≡ None))
    → Fits s u
fits r s t u fit order first held levels which = record {
  order = order;
  levels = levels;
  fresh = λ slot last.
      let was_last : (held_at t.first t.held slot).version ≡ last_version = sym (ap (λ (h : Slot). h.version) (same slot)) ∙ last in
      elim (which slot was_last) [
        | inl level ↦ ap (λ h. differing h slot (wanted_at u slot)) (same slot) ∙ (ap (differing (held_at t.first t.held slot) slot) (levels slot ∙ (level ∙ sym (fit.levels slot))) ∙ fit.fresh slot was_last)
        | inr none ↦ ap (differing (held_at u.first u.held slot) slot) (levels slot ∙ none)
      ];
}
  where
    same : (slot : ℕ) → held_at u.first u.held slot ≡ held_at t.first t.held slot
    same slot = ap (λ n. held_at n u.held slot) first ∙ ap (λ h. held_at t.first h slot) held

-- no level changes
pub fits-same : (r s : Registry) (t : Table) → Fits r t → IsInOrder s → ((slot : ℕ) → level_at s slot ≡ level_at r slot) → Fits s t
fits-same r s t fit order levels = fits r s t t fit order refl refl (λ slot. fit.levels slot ∙ sym (levels slot)) (λ slot last. inl (levels slot))

-- some slots get a level, or lose it
pub fits-some : (r s : Registry) (t u : Table) (test : ℕ → Bool) (level : Option ℕ) → Fits r t → IsInOrder s → u.first ≡ t.first → u.held ≡ t.held
    → ((slot : ℕ) → wanted_at u slot ≡ cond (test slot) level (wanted_at t slot))
    → ((slot : ℕ) → level_at s slot ≡ cond (test slot) level (level_at r slot))
    → ((slot : ℕ) → test slot ≡ true → (held_at t.first t.held slot).version ≢ last_version) ⊎ (level ≡ None)
    → Fits s u
fits-some r s t u test level fit order first held wanted levels which =
    fits r s t u fit order first held
    (λ slot. wanted slot ∙ (ap (cond (test slot) level) (fit.levels slot) ∙ sym (levels slot)))
    (λ slot last. by slot (test slot) refl last)
  where
    by : (slot : ℕ) (b : Bool) → test slot ≡ b → (held_at t.first t.held slot).version ≡ last_version → (level_at s slot ≡ level_at r slot) ⊎ (level_at s slot ≡ None)
    by slot true here last = elim which [
      | inl fresh ↦ absurd (fresh slot here last)
      | inr none ↦ inr (levels slot ∙ (ap (λ b. cond b level (level_at r slot)) here ∙ none))
    ]
    by slot false other last = inl (levels slot ∙ ap (λ b. cond b level (level_at r slot)) other)

-- all slots of an application lose theirs
pub fits-app_gone : (r s : Registry) (t u : Table) (number : ℕ) → Fits r t → IsInOrder s → u.first ≡ t.first → u.held ≡ t.held
    → ((slot : ℕ) → wanted_at u slot ≡ cond (number == slot / 64) None (wanted_at t slot))
    → ((slot : ℕ) → level_at s slot ≡ cond (number == slot / 64) None (level_at r slot))
    → Fits s u
fits-app_gone r s t u number fit order first held wanted levels =
    fits r s t u fit order first held
    (λ slot. wanted slot ∙ (ap (cond (number == slot / 64) None) (fit.levels slot) ∙ sym (levels slot)))
    (λ slot last. elim (eqb_tells number (slot / 64)) [
      | inl here ↦ inr (levels slot ∙ ap (λ b. cond b None (level_at r slot)) here.0)
      | inr other ↦ inl (levels slot ∙ ap (λ b. cond b None (level_at r slot)) other.0)
    ])
