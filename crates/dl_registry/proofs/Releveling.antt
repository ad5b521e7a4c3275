-- New levels for all contexts fit, where they are written slot by slot.
use Rattle.std.proofs.Common.{◌≡◌, ◌≢◌, inl, inr, ℕ, ◌/◌, ◌%◌, ◌<◌, ◌≤◌, Bool, true, false, not, cond, List, [], ◌∷◌, ◌++◌, map, reverse, Option, Some, None, is_some, refl, sym, ap, subst, ◌∙◌, true≢false, arith}
use Rattle.std.specs.Prelude.{nat_eq, ◌==◌, ◌||◌, ◌&&◌}
use Rattle.std.specs.List.{AllByRecursion, IsDistinct, find, list_any}
use Rattle.std.specs.Map.{values_of}
use Rattle.std.specs.Option.{option_map, option_or}
use Rattle.std.proofs.lemmas.Bool.{cases_lt}
use Rattle.std.proofs.lemmas.Bool.Decides.{eqb_tells}
use Rattle.std.proofs.lemmas.List.{reverse-append}
use Rattle.std.proofs.lemmas.List.Folds.{find-append}
use Rattle.std.proofs.lemmas.Map.Keys.{IsDistinct-head, IsDistinct-tail}
use Rattle.dl_lemmas.proofs.Options.{or_none}
use Rattle.dl_lemmas.proofs.Bools.{or_left, or_right}
use Rattle.dl_model.specs.declared.context.Context.{Context}
use Rattle.dl_model.specs.declared.registry.Slot.{Slot}
use Rattle.dl_bytes.specs.Limits.{last_version}
use Rattle.dl_model.specs.Registry.{App, Registry, ArePlaced, IsInOrder, IsNumbered, Relevel, effective, has_place, is_worn, level_at, numbers, places, places_of, releveled, releveled_app, releveled_context, slot_of, wears, wears_app, wears_context}
use Rattle.dl_model.proofs.Order.{in_order-releveled}
use Rattle.dl_registry.specs.Kept.{Fits}
use Rattle.dl_registry.specs.Refresh.{has_slot, level_in_app, level_in_apps}
use Rattle.dl_registry.specs.Table.{Table, held_at, wanted_at}
use Rattle.dl_model.proofs.Placed.{all-left, all-right}
use Rattle.dl_registry.proofs.Finding.{valued, valued-absent}
use Rattle.dl_registry.proofs.Placing.{placed, placed-reverse}
use Rattle.dl_registry.proofs.Fitting.{level_of, fits, same_tests, other_tests}

-- ---- the contexts of one application

-- a search from the end finds the same by two tests that agree
alike_reverse : (p q : Context → Bool) (es : List (List ℕ × Context)) → AllByRecursion (λ (e : List ℕ × Context). p e.1 ≡ q e.1) es → find p (reverse (values_of es)) ≡ find q (reverse (values_of es))
alike_reverse p q [] all = refl
alike_reverse p q (e ∷ es) all =
    one_more p ∙ (ap (λ o. option_or o (cond (p e.1) (Some e.1) None)) (alike_reverse p q es all.1) ∙ (ap (λ b. option_or (find q (reverse (values_of es))) (cond b (Some e.1) None)) all.0 ∙ sym (one_more q)))
  where
    one_more : (t : Context → Bool) → find t (reverse (values_of (e ∷ es))) ≡ option_or (find t (reverse (values_of es))) (cond (t e.1) (Some e.1) None)
    one_more t = ap (find t) (reverse-append (e.1 ∷ []) (values_of es)) ∙ find-append t (reverse (values_of es)) (e.1 ∷ [])

none_passes : (xs : List Context) → find (λ x. false) xs ≡ None
none_passes [] = refl
none_passes (x ∷ xs) = none_passes xs

each : (P Q : ℕ → Type 0) → ((n : ℕ) → P n → Q n) → (ns : List ℕ) → AllByRecursion P ns → AllByRecursion Q ns
each P Q step [] all = tt
each P Q step (n ∷ ns) all = (step n all.0, each P Q step ns all.1)

tests_here : (number slot : ℕ) → number ≡ slot / 64 → (es : List (List ℕ × Context)) → AllByRecursion (λ n. n < 64) (places es)
    → AllByRecursion (λ (e : List ℕ × Context). has_slot number slot e.1 ≡ has_place (slot % 64) e.1) es
tests_here number slot here [] below = tt
tests_here number slot here (e ∷ es) below = (
  sym (same_tests number slot here (places_of e.1) (all-left (λ n. n < 64) (places_of e.1) (places es) below)),
  tests_here number slot here es (all-right (λ n. n < 64) (places_of e.1) (places es) below),
)

tests_there : (number slot : ℕ) → number ≢ slot / 64 → (es : List (List ℕ × Context)) → AllByRecursion (λ n. n < 64) (places es)
    → AllByRecursion (λ (e : List ℕ × Context). has_slot number slot e.1 ≡ false) es
tests_there number slot there [] below = tt
tests_there number slot there (e ∷ es) below = (
  other_tests number slot there (places_of e.1) (all-left (λ n. n < 64) (places_of e.1) (places es) below),
  tests_there number slot there es (all-right (λ n. n < 64) (places_of e.1) (places es) below),
)

-- what is written of an application is its level at each of its slots
pub level_in_app-is : (level : ℕ) (app : App) (slot : ℕ) → IsNumbered 64 (places app.contexts) → level_in_app level app slot ≡ cond (app.number == slot / 64) (level_of level (Some app) slot) None
level_in_app-is level app slot is = elim (eqb_tells app.number (slot / 64)) [
  | inl here ↦
      ap (option_map (effective level)) (alike_reverse (has_slot app.number slot) (has_place (slot % 64)) app.contexts (tests_here app.number slot here.1 app.contexts is.below)
      ∙ placed-reverse places_of (slot % 64) app.contexts is.apart)
      ∙ sym (ap (λ b. cond b (level_of level (Some app) slot) None) here.0)
  | inr there ↦
      ap (option_map (effective level)) (alike_reverse (has_slot app.number slot) (λ x. false) app.contexts (tests_there app.number slot there.1 app.contexts is.below) ∙ none_passes (reverse (values_of app.contexts)))
      ∙ sym (ap (λ b. cond b (level_of level (Some app) slot) None) there.0)
]

-- ---- all applications

or_assoc : {A : Type 0} (a b c : Option A) → option_or (option_or a b) c ≡ option_or a (option_or b c)
or_assoc None b c = refl
or_assoc (Some x) b c = refl

level_in_apps-append : (level : ℕ) (xs ys : List App) (slot : ℕ) → level_in_apps level (xs ++ ys) slot ≡ option_or (level_in_apps level xs slot) (level_in_apps level ys slot)
level_in_apps-append level [] ys slot = refl
level_in_apps-append level (x ∷ xs) ys slot =
    ap (option_or (level_in_app level x slot)) (level_in_apps-append level xs ys slot) ∙ sym (or_assoc (level_in_app level x slot) (level_in_apps level xs slot) (level_in_apps level ys slot))

-- what is written of all applications is the level at each slot
pub level_in_apps-is : (level : ℕ) (es : List (List ℕ × App)) (slot : ℕ) → IsDistinct nat_eq (numbers es) → ArePlaced es
    → level_in_apps level (reverse (values_of es)) slot ≡ level_of level (valued (λ (a : App). a.number) (slot / 64) es) slot
level_in_apps-is level [] slot apart placed = refl
level_in_apps-is level (e ∷ es) slot apart placed =
    ap (λ xs. level_in_apps level xs slot) (reverse-append (e.1 ∷ []) (values_of es))
    ∙ (level_in_apps-append level (reverse (values_of es)) (e.1 ∷ []) slot
    ∙ (ap (λ o. option_or o (option_or (level_in_app level e.1 slot) None)) (level_in_apps-is level es slot (IsDistinct-tail nat_eq e.1.number (numbers es) apart) placed.1)
    ∙ (ap (λ o. option_or (level_of level (valued (λ (a : App). a.number) (slot / 64) es) slot) o) (or_none (level_in_app level e.1 slot) ∙ level_in_app-is level e.1 slot placed.0)
    ∙ elim (eqb_tells e.1.number (slot / 64)) [
      | inl here ↦
          let none : valued (λ (a : App). a.number) (slot / 64) es ≡ None =
          valued-absent (λ (a : App). a.number) (slot / 64) es (subst (λ n. AllByRecursion (λ y. nat_eq n y ≡ false) (numbers es)) here.1 (IsDistinct-head nat_eq e.1.number (numbers es) apart)) in
          ap (λ o. option_or (level_of level o slot) (cond (e.1.number == slot / 64) (level_of level (Some e.1) slot) None)) none
          ∙ (ap (λ b. cond b (level_of level (Some e.1) slot) None) here.0
          ∙ sym (ap (λ b. level_of level (cond b (Some e.1) (valued (λ (a : App). a.number) (slot / 64) es)) slot) here.0))
      | inr there ↦
          ap (λ b. option_or (level_of level (valued (λ (a : App). a.number) (slot / 64) es) slot) (cond b (level_of level (Some e.1) slot) None)) there.0
          ∙ (or_none (level_of level (valued (λ (a : App). a.number) (slot / 64) es) slot)
          ∙ sym (ap (λ b. level_of level (cond b (Some e.1) (valued (λ (a : App). a.number) (slot / 64) es)) slot) there.0))
    ])))

-- ---- the same slots have contexts, before and after

pub context_stays : (old new : ℕ) (relevel : Relevel) (apid : List ℕ) (place : ℕ) (es : List (List ℕ × Context))
    → is_some (option_map (effective new) (placed places_of place (map (releveled_context relevel apid) es))) ≡ is_some (option_map (effective old) (placed places_of place es))
context_stays old new relevel apid place [] = refl
context_stays old new relevel apid place (e ∷ es) = by (has_place place e.1) (context_stays old new relevel apid place es) where
  by : (b : Bool)
      → is_some (option_map (effective new) (placed places_of place (map (releveled_context relevel apid) es))) ≡ is_some (option_map (effective old) (placed places_of place es))
      → is_some (option_map (effective new) (cond b (Some (releveled_context relevel apid e).1) (placed places_of place (map (releveled_context relevel apid) es)))) ≡ is_some (option_map (effective old) (cond b (Some e.1) (placed places_of place es)))
  by true rest = refl
  by false rest = rest

app_stays : (old new : ℕ) (relevel : Relevel) (slot : ℕ) (es : List (List ℕ × App))
    → is_some (level_of new (valued (λ (a : App). a.number) (slot / 64) (map (releveled_app relevel) es)) slot) ≡ is_some (level_of old (valued (λ (a : App). a.number) (slot / 64) es) slot)
app_stays old new relevel slot [] = refl
app_stays old new relevel slot (e ∷ es) = by (e.1.number == slot / 64) (app_stays old new relevel slot es) where
  by : (b : Bool)
      → is_some (level_of new (valued (λ (a : App). a.number) (slot / 64) (map (releveled_app relevel) es)) slot) ≡ is_some (level_of old (valued (λ (a : App). a.number) (slot / 64) es) slot)
      → is_some (level_of new (cond b (Some (releveled_app relevel e).1) (valued (λ (a : App). a.number) (slot / 64) (map (releveled_app relevel) es))) slot)
      ≡ is_some (level_of old (cond b (Some e.1) (valued (λ (a : App). a.number) (slot / 64) es)) slot)
  by true rest = context_stays old new relevel e.0 (slot % 64) e.1.contexts
  by false rest = rest

-- ---- no slot at its last version changes

same_levels : (worn : Bool) (a b : ℕ) → worn ≡ true → (worn && not (a == b)) ≡ false → a ≡ b
same_levels worn a b is none = elim (eqb_tells a b) [
  | inl same ↦ same.1
  | inr other ↦ absurd (true≢false (sym (ap (λ w. w && not (a == b)) is ∙ ap not other.0) ∙ none))
]

-- a slot at the last version wears the context that has it
worn_at : (slots : ℕ → Slot) (number slot : ℕ) → number ≡ slot / 64 → (slots slot).version ≡ last_version → (ns : List ℕ) → list_any (nat_eq (slot % 64)) ns ≡ true
    → list_any (λ place. (slots (slot_of number place)).version == last_version) ns ≡ true
worn_at slots number slot here last [] is = absurd (true≢false (sym is))
worn_at slots number slot here last (n ∷ ns) is = elim (eqb_tells (slot % 64) n) [
  | inl same ↦
      let at : slot ≡ slot_of number n = omega (arith, same.1, here) in
      let worn : ((slots (slot_of number n)).version == last_version) ≡ true = elim (eqb_tells (slots (slot_of number n)).version last_version) [
        | inl so ↦ so.0
        | inr other ↦ absurd (other.1 (ap (λ k. (slots k).version) (sym at) ∙ last))
      ] in
      ap (λ b. b || list_any (λ place. (slots (slot_of number place)).version == last_version) ns) worn
  | inr other ↦
      ap (λ b. ((slots (slot_of number n)).version == last_version) || b) (worn_at slots number slot here last ns (sym (ap (λ b. b || list_any (nat_eq (slot % 64)) ns) other.0) ∙ is))
      ∙ or_true ((slots (slot_of number n)).version == last_version)
]
  where
    or_true : (b : Bool) → (b || true) ≡ true
    or_true true = refl
    or_true false = refl

context_keeps : (slots : ℕ → Slot) (old new : ℕ) (relevel : Relevel) (app : List ℕ × App) (slot : ℕ) → app.1.number ≡ slot / 64 → (slots slot).version ≡ last_version
    → (es : List (List ℕ × Context)) → list_any (wears_context slots old new relevel app) es ≡ false
    → option_map (effective new) (placed places_of (slot % 64) (map (releveled_context relevel app.0) es)) ≡ option_map (effective old) (placed places_of (slot % 64) es)
context_keeps slots old new relevel app slot number last [] none = refl
context_keeps slots old new relevel app slot number last (e ∷ es) none =
    by (has_place (slot % 64) e.1) refl (context_keeps slots old new relevel app slot number last es (or_right (wears_context slots old new relevel app e) (list_any (wears_context slots old new relevel app) es) none))
  where
    by : (b : Bool) → has_place (slot % 64) e.1 ≡ b
        → option_map (effective new) (placed places_of (slot % 64) (map (releveled_context relevel app.0) es)) ≡ option_map (effective old) (placed places_of (slot % 64) es)
        → option_map (effective new) (cond b (Some (releveled_context relevel app.0 e).1) (placed places_of (slot % 64) (map (releveled_context relevel app.0) es))) ≡ option_map (effective old) (cond b (Some e.1) (placed places_of (slot % 64) es))
    by true here rest =
        ap Some (sym (same_levels (is_worn slots app.1.number e.1) (effective old e.1) (effective new (releveled_context relevel app.0 e).1) (worn_at slots app.1.number slot number last (places_of e.1) here)
        (or_left (wears_context slots old new relevel app e) (list_any (wears_context slots old new relevel app) es) none)))
    by false here rest = rest

app_keeps : (slots : ℕ → Slot) (old new : ℕ) (relevel : Relevel) (slot : ℕ) → (slots slot).version ≡ last_version
    → (es : List (List ℕ × App)) → list_any (wears_app slots old new relevel) es ≡ false
    → level_of new (valued (λ (a : App). a.number) (slot / 64) (map (releveled_app relevel) es)) slot ≡ level_of old (valued (λ (a : App). a.number) (slot / 64) es) slot
app_keeps slots old new relevel slot last [] none = refl
app_keeps slots old new relevel slot last (e ∷ es) none = elim (eqb_tells e.1.number (slot / 64)) [
  | inl here ↦
      ap (λ b. level_of new (cond b (Some (releveled_app relevel e).1) (valued (λ (a : App). a.number) (slot / 64) (map (releveled_app relevel) es))) slot) here.0
      ∙ (context_keeps slots old new relevel e slot here.1 last e.1.contexts (or_left (wears_app slots old new relevel e) (list_any (wears_app slots old new relevel) es) none)
      ∙ sym (ap (λ b. level_of old (cond b (Some e.1) (valued (λ (a : App). a.number) (slot / 64) es)) slot) here.0))
  | inr other ↦
      ap (λ b. level_of new (cond b (Some (releveled_app relevel e).1) (valued (λ (a : App). a.number) (slot / 64) (map (releveled_app relevel) es))) slot) other.0
      ∙ (app_keeps slots old new relevel slot last es (or_right (wears_app slots old new relevel e) (list_any (wears_app slots old new relevel) es) none)
      ∙ sym (ap (λ b. level_of old (cond b (Some e.1) (valued (λ (a : App). a.number) (slot / 64) es)) slot) other.0))
]

-- ---- no slot is beyond the last

pub beyond : (r : Registry) (slot : ℕ) → IsInOrder r → 1024 ≤ slot → level_at r slot ≡ None
beyond r slot is out = ap (λ o. level_of r.level o slot) (valued-absent (λ (a : App). a.number) (slot / 64) r.apps (each (λ n. n < 16) (λ n. nat_eq (slot / 64) n ≡ false) apart (numbers r.apps) is.numbered.below)) where
  apart : (n : ℕ) → n < 16 → nat_eq (slot / 64) n ≡ false
  apart n below = elim (eqb_tells (slot / 64) n) [ inl same ↦ absurd (omega (arith, same.1)) | inr other ↦ other.0 ]

-- where there was no level there is none
pub or_old : (new old : Option ℕ) → is_some new ≡ is_some old → option_or new old ≡ new
or_old (Some x) old same = refl
or_old None None same = refl
or_old None (Some x) same = absurd (true≢false (sym same))

-- a table that has the new levels fits
pub fits-levels : (r : Registry) (t u : Table) (level : ℕ) (relevel : Relevel) → Fits r t → wears (held_at t.first t.held) r level relevel ≡ false → u.first ≡ t.first → u.held ≡ t.held
    → ((slot : ℕ) → wanted_at u slot ≡ level_at (releveled level relevel r) slot) → Fits (releveled level relevel r) u
fits-levels r t u level relevel fit none first held wanted =
    fits r (releveled level relevel r) t u fit (in_order-releveled level relevel r fit.order) first held wanted
    (λ slot last. inl (app_keeps (held_at t.first t.held) r.level level relevel slot last r.apps none))

pub fits-releveled : (r : Registry) (t u : Table) (level : ℕ) (relevel : Relevel) → Fits r t → wears (held_at t.first t.held) r level relevel ≡ false → u.first ≡ t.first → u.held ≡ t.held
    → ((slot : ℕ) → 1024 ≤ slot → wanted_at u slot ≡ wanted_at t slot)
    → ((slot : ℕ) → slot < 1024 → wanted_at u slot ≡ option_or (level_in_apps level (reverse (values_of (map (releveled_app relevel) r.apps))) slot) (wanted_at t slot))
    → Fits (releveled level relevel r) u
fits-releveled r t u level relevel fit none first held outside inside =
    fits-levels r t u level relevel fit none first held
    (λ slot. elim (cases_lt slot 1024) [
      | inl within ↦
          inside slot within
          ∙ (ap (λ o. option_or o (wanted_at t slot)) (level_in_apps-is level (map (releveled_app relevel) r.apps) slot order.numbered.apart order.placed)
          ∙ (ap (option_or (level_at (releveled level relevel r) slot)) (fit.levels slot)
          ∙ or_old (level_at (releveled level relevel r) slot) (level_at r slot) (app_stays r.level level relevel slot r.apps)))
      | inr out ↦ outside slot out ∙ (fit.levels slot ∙ (beyond r slot fit.order out ∙ sym (beyond (releveled level relevel r) slot order out)))
    ])
  where
    order : IsInOrder (releveled level relevel r)
    order = in_order-releveled level relevel r fit.order
