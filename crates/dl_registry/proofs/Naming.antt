-- Own levels for what an id names: where ids are apart, no entry but that one changes.
use Rattle.std.proofs.Common.{◌≡◌, inl, inr, ℕ, ◌/◌, ◌%◌, ◌<◌, ◌≤◌, Bool, true, false, not, cond, List, [], ◌∷◌, length, map, Option, Some, None, Ok, Err, refl, sym, ap, subst, ◌∙◌}
use Rattle.std.specs.Prelude.{◌==◌, ◌||◌, ◌&&◌, if◌then◌else◌}
use Rattle.std.specs.List.{IsDistinct, filter, list_any}
use Rattle.std.specs.Map.{keys_of, lookup, set_value}
use Rattle.std.specs.Option.{option_and_then, option_map_or, option_or}
use Rattle.std.specs.Str.{bytes_eq}
use Rattle.std.proofs.lemmas.Bool.{cases_lt}
use Rattle.std.proofs.lemmas.Bool.Decides.{eqb_tells}
use Rattle.std.proofs.lemmas.Map.{none_passes_from_lookup}
use Rattle.dl_model.specs.declared.context.Context.{Context}
use Rattle.dl_model.specs.declared.registry.SetFault.TheVariants as set
use Rattle.dl_model.specs.declared.registry.Slot.{Slot}
use Rattle.dl_model.specs.Registry.{App, Registry, IsInOrder, IsNumbered, Relevel, context_of, effective, is_pattern, is_worn, level_at, matches, matching, matching_in, own_set, places, places_of, releveled, releveled_app, releveled_context, set_matching, unless_worn, wears, wears_app, wears_context, with_app, with_context}
use Rattle.dl_model.proofs.Order.{in_order-releveled, in_order-with_app, placed_of_found}
use Rattle.dl_model.proofs.Placed.{places-same, releveled_places}
use Rattle.dl_model.proofs.Presence.{lookup-set_same}
use Rattle.dl_apps.specs.Change.{changed_app, changed_context, leveled, releveled_in}
use Rattle.dl_apps.proofs.OneNamed.{any-absent, any-named, filter-absent, filter-named, gives-absent, gives-named, map-absent, map-named, matches-itself, matches-other}
use Rattle.dl_registry.specs.Kept.{Fits}
use Rattle.dl_registry.specs.Refresh.{has_slot, level_in_app, level_named}
use Rattle.dl_registry.specs.Table.{Table, held_at, wanted_at}
use Rattle.dl_registry.proofs.Fitting.{level_of, level_at-found, level_at-places, level_at-replaced, level_of-changed}
use Rattle.dl_registry.proofs.Messages.{places_below}
use Rattle.dl_registry.proofs.Releveling.{beyond, context_stays, fits-levels, level_in_app-is, or_old}

all_same : {X : Type 0} (f : X → X) → ((x : X) → f x ≡ x) → (xs : List X) → map f xs ≡ xs
all_same f same [] = refl
all_same f same (x ∷ xs) = λ i. same x i ∷ all_same f same xs i

none_of : {X : Type 0} (test : X → Bool) → ((x : X) → test x ≡ false) → (xs : List X) → list_any test xs ≡ false
none_of test none [] = refl
none_of test none (x ∷ xs) = ap (λ b. b || list_any test xs) (none x) ∙ none_of test none xs

-- a level that stays wears nothing
stays : (worn : Bool) (a b : ℕ) → a ≡ b → (worn && not (a == b)) ≡ false
stays true a b same = elim (eqb_tells a b) [ inl is ↦ ap not is.0 | inr other ↦ absurd (other.1 same) ]
stays false a b same = refl

-- a context that keeps its own level is none that changes
context-same : (relevel : Relevel) (apid : List ℕ) (x : List ℕ × Context) → relevel apid x.0 x.1.own ≡ x.1.own → releveled_context relevel apid x ≡ x
context-same relevel apid x same = ap (λ own. (x.0, record x.1 { own = own })) same

context-fresh : (s : ℕ → Slot) (level : ℕ) (relevel : Relevel) (app : List ℕ × App) (x : List ℕ × Context) → relevel app.0 x.0 x.1.own ≡ x.1.own → wears_context s level level relevel app x ≡ false
context-fresh s level relevel app x same = stays (is_worn s app.1.number x.1) (effective level x.1) (effective level (releveled_context relevel app.0 x).1)
    (ap (λ (y : List ℕ × Context). effective level y.1) (sym (context-same relevel app.0 x same)))

-- by the application's id
module _ (apid ctid : List ℕ) (some : is_pattern apid ≡ false) where
  none-there : (e : List ℕ × App) → bytes_eq apid e.0 ≡ false → matching_in apid ctid e ≡ []
  none-there e apart = ap (λ b. if b then filter (λ x. matches ctid x.0) e.1.contexts else []) (matches-other apid e.0 some apart)

  module _ (own : Option ℕ) where
    own-there : (app context : List ℕ) (old : Option ℕ) → bytes_eq apid app ≡ false → set_matching apid ctid own app context old ≡ old
    own-there app context old apart = ap (λ b. if b && matches ctid context then own else old) (matches-other apid app some apart)

    app-same : (e : List ℕ × App) → bytes_eq apid e.0 ≡ false → releveled_app (set_matching apid ctid own) e ≡ e
    app-same e apart =
        ap (λ cs. (e.0, record e.1 { contexts = cs }))
        (all_same (releveled_context (set_matching apid ctid own) e.0) (λ x. context-same (set_matching apid ctid own) e.0 x (own-there e.0 x.0 x.1.own apart)) e.1.contexts)

    app-fresh : (s : ℕ → Slot) (level : ℕ) (e : List ℕ × App) → bytes_eq apid e.0 ≡ false → wears_app s level level (set_matching apid ctid own) e ≡ false
    app-fresh s level e apart =
        none_of (wears_context s level level (set_matching apid ctid own) e) (λ x. context-fresh s level (set_matching apid ctid own) e x (own-there e.0 x.0 x.1.own apart)) e.1.contexts

-- by the context's id
module _ (ctid : List ℕ) (some : is_pattern ctid ≡ false) where
  module _ (apid : List ℕ) (own : Option ℕ) where
    own-beside : (context : List ℕ) (old : Option ℕ) → bytes_eq ctid context ≡ false → set_matching apid ctid own apid context old ≡ old
    own-beside context old apart = ap (λ b. if matches apid apid && b then own else old) (matches-other ctid context some apart) ∙ by (matches apid apid) where
      by : (b : Bool) → (if b && false then own else old) ≡ old
      by true = refl
      by false = refl

    own-here : (old : Option ℕ) → set_matching apid ctid own apid ctid old ≡ own
    own-here old = λ i. if matches-itself apid i && matches-itself ctid i then own else old

    module _ (app : App) (context : Context) (there : context_of app ctid ≡ Some context) (alone : IsDistinct bytes_eq (keys_of app.contexts)) where
      app-named : releveled_app (set_matching apid ctid own) (apid, app) ≡ (apid, with_context app ctid (leveled own context))
      app-named =
          ap (λ cs. (apid, record app { contexts = cs }))
          (map-named ctid (releveled_context (set_matching apid ctid own) apid) (λ x other. context-same (set_matching apid ctid own) apid x (own-beside x.0 x.1.own other))
          context (leveled own context) (ap (λ o. (ctid, leveled o context)) (own-here context.own)) app.contexts there alone)

      app-wears : (s : ℕ → Slot) (level : ℕ)
          → wears_app s level level (set_matching apid ctid own) (apid, app) ≡ (is_worn s app.number context && not (effective level context == effective level (leveled own context)))
      app-wears s level =
          any-named ctid (wears_context s level level (set_matching apid ctid own) (apid, app)) (λ x other. context-fresh s level (set_matching apid ctid own) (apid, app) x (own-beside x.0 x.1.own other))
          context app.contexts there alone
          ∙ ap (λ o. is_worn s app.number context && not (effective level context == effective level (leveled o context))) (own-here context.own)

-- ---- the registry, by the application's id

module _ (r : Registry) (apid ctid : List ℕ) (some : is_pattern apid ≡ false) (apart : IsDistinct bytes_eq (keys_of r.apps)) where
  pub matching-absent : lookup (bytes_eq apid) r.apps ≡ None → matching r apid ctid ≡ []
  matching-absent none = gives-absent apid (matching_in apid ctid) (none-there apid ctid some) r.apps (none_passes_from_lookup (bytes_eq apid) r.apps none)

  pub matching-named : (app : App) → lookup (bytes_eq apid) r.apps ≡ Some app → matching r apid ctid ≡ filter (λ x. matches ctid x.0) app.contexts
  matching-named app found =
      gives-named apid (matching_in apid ctid) (none-there apid ctid some) app r.apps found apart
      ∙ ap (λ b. if b then filter (λ x. matches ctid x.0) app.contexts else []) (matches-itself apid)

  module _ (own : Option ℕ) where
    -- whether a slot of its would change that is at its last version
    pub app-wears_is : (s : ℕ → Slot)
        → wears s r r.level (set_matching apid ctid own) ≡ option_map_or (λ app. wears_app s r.level r.level (set_matching apid ctid own) (apid, app)) (lookup (bytes_eq apid) r.apps) false
    app-wears_is s = by (lookup (bytes_eq apid) r.apps) refl where
      by : (o : Option App) → lookup (bytes_eq apid) r.apps ≡ o
          → wears s r r.level (set_matching apid ctid own) ≡ option_map_or (λ app. wears_app s r.level r.level (set_matching apid ctid own) (apid, app)) o false
      by None none = any-absent apid (wears_app s r.level r.level (set_matching apid ctid own)) (app-fresh apid ctid some own s r.level) r.apps (none_passes_from_lookup (bytes_eq apid) r.apps none)
      by (Some app) found = any-named apid (wears_app s r.level r.level (set_matching apid ctid own)) (app-fresh apid ctid some own s r.level) app r.apps found apart

    -- and what it gets
    pub app-releveled : releveled r.level (set_matching apid ctid own) r ≡ record r { apps = changed_app apid (releveled_in (set_matching apid ctid own) apid) r.apps }
    app-releveled = by (lookup (bytes_eq apid) r.apps) refl where
      by : (o : Option App) → lookup (bytes_eq apid) r.apps ≡ o
          → releveled r.level (set_matching apid ctid own) r
          ≡ record r { apps = option_map_or (λ app. set_value (bytes_eq apid) r.apps (releveled_in (set_matching apid ctid own) apid app)) o r.apps }
      by None none =
          ap (λ es. record r { apps = es }) (map-absent apid (releveled_app (set_matching apid ctid own)) (app-same apid ctid some own) r.apps (none_passes_from_lookup (bytes_eq apid) r.apps none))
      by (Some app) found =
          ap (λ es. record r { apps = es })
          (map-named apid (releveled_app (set_matching apid ctid own)) (app-same apid ctid some own) app (releveled_in (set_matching apid ctid own) apid app) refl r.apps found apart)

-- ---- by both ids

module _ (s : ℕ → Slot) (r : Registry) (apid ctid : List ℕ) (own : Option ℕ) (some : is_pattern apid ≡ false) (apart : IsDistinct bytes_eq (keys_of r.apps)) where
  pub no_app : lookup (bytes_eq apid) r.apps ≡ None → own_set s r apid ctid own ≡ Err set.Nobody
  no_app none =
      ap (λ (xs : List (List ℕ × Context)). if length xs == 0 then Err set.Nobody else unless_worn s r r.level (set_matching apid ctid own)) (matching-absent r apid ctid some apart none)

  module _ (named : is_pattern ctid ≡ false) (app : App) (found : lookup (bytes_eq apid) r.apps ≡ Some app) where
    pub no_context : context_of app ctid ≡ None → own_set s r apid ctid own ≡ Err set.Nobody
    no_context none =
        ap (λ (xs : List (List ℕ × Context)). if length xs == 0 then Err set.Nobody else unless_worn s r r.level (set_matching apid ctid own))
        (matching-named r apid ctid some apart app found ∙ filter-absent ctid named app.contexts (none_passes_from_lookup (bytes_eq ctid) app.contexts none))

    module _ (context : Context) (there : context_of app ctid ≡ Some context) (alone : IsDistinct bytes_eq (keys_of app.contexts)) where
      pub one-matches : length (matching r apid ctid) ≡ 1
      one-matches = ap length (matching-named r apid ctid some apart app found) ∙ filter-named ctid named context app.contexts there alone

      -- whether a slot of it would change that is at its last version
      pub one-wears : wears s r r.level (set_matching apid ctid own) ≡ (is_worn s app.number context && not (effective r.level context == effective r.level (leveled own context)))
      one-wears =
          app-wears_is r apid ctid some apart own s
          ∙ (ap (λ o. option_map_or (λ a. wears_app s r.level r.level (set_matching apid ctid own) (apid, a)) o false) found
          ∙ app-wears ctid named apid own app context there alone s r.level)

      pub one-releveled : releveled r.level (set_matching apid ctid own) r ≡ with_app r apid (with_context app ctid (leveled own context))
      one-releveled =
          app-releveled r apid ctid some apart own
          ∙ (ap (λ o. record r { apps = option_map_or (λ a. set_value (bytes_eq apid) r.apps (releveled_in (set_matching apid ctid own) apid a)) o r.apps }) found
          ∙ ap (λ (e : List ℕ × App). with_app r apid e.1) (app-named ctid named apid own app context there alone))

      pub one-worn : (is_worn s app.number context && not (effective r.level context == effective r.level (leveled own context))) ≡ true → own_set s r apid ctid own ≡ Err set.Worn
      one-worn is =
          ap (λ n. if n == 0 then Err set.Nobody else unless_worn s r r.level (set_matching apid ctid own)) one-matches
          ∙ ap (λ b. if b then Err set.Worn else Ok (releveled r.level (set_matching apid ctid own) r)) (one-wears ∙ is)

      pub one-set : (is_worn s app.number context && not (effective r.level context == effective r.level (leveled own context))) ≡ false
          → own_set s r apid ctid own ≡ Ok (with_app r apid (with_context app ctid (leveled own context)))
      one-set is =
          ap (λ n. if n == 0 then Err set.Nobody else unless_worn s r r.level (set_matching apid ctid own)) one-matches
          ∙ (ap (λ b. if b then Err set.Worn else Ok (releveled r.level (set_matching apid ctid own) r)) (one-wears ∙ is) ∙ ap Ok one-releveled)

-- ---- the table, where the slots of that context alone get its level

pub fits-one : (r : Registry) (t u : Table) (apid ctid : List ℕ) (own : Option ℕ) (app : App) (context : Context) → Fits r t → is_pattern apid ≡ false → is_pattern ctid ≡ false → IsDistinct bytes_eq (keys_of r.apps)
    → lookup (bytes_eq apid) r.apps ≡ Some app → context_of app ctid ≡ Some context → IsDistinct bytes_eq (keys_of app.contexts)
    → (is_worn (held_at t.first t.held) app.number context && not (effective r.level context == effective r.level (leveled own context))) ≡ false
    → u.first ≡ t.first → u.held ≡ t.held → ((slot : ℕ) → 1024 ≤ slot → wanted_at u slot ≡ wanted_at t slot)
    → ((slot : ℕ) → slot < 1024 → wanted_at u slot ≡ cond (has_slot app.number slot context) (Some (effective r.level (leveled own context))) (wanted_at t slot))
    → Fits (with_app r apid (with_context app ctid (leveled own context))) u
fits-one r t u apid ctid own app context fit some named apart found there alone fresh first held outside inside =
    subst (λ (n : Registry). Fits n u) releveled_is
    (fits-levels r t u r.level (set_matching apid ctid own) fit
    (one-wears s r apid ctid own some apart named app found context there alone ∙ fresh) first held
    (λ slot. elim (cases_lt slot 1024) [
      | inl within ↦ inside slot within ∙ (ap (cond (has_slot app.number slot context) (Some (effective r.level new))) (fit.levels slot) ∙ sym (levels slot))
      | inr out ↦ outside slot out ∙ (fit.levels slot ∙ (beyond r slot fit.order out ∙ sym (beyond (with_app r apid (with_context app ctid new)) slot order out)))
    ]
    ∙ sym (ap (λ (n : Registry). level_at n slot) releveled_is)))
  where
    s : ℕ → Slot
    s = held_at t.first t.held

    new : Context
    new = leveled own context

    releveled_is : releveled r.level (set_matching apid ctid own) r ≡ with_app r apid (with_context app ctid new)
    releveled_is = one-releveled s r apid ctid own some apart named app found context there alone

    was : IsNumbered 64 (places app.contexts)
    was = placed_of_found r apid app fit.order found

    now : IsNumbered 64 (places (set_value (bytes_eq ctid) app.contexts new))
    now = subst (IsNumbered 64) (sym (places-same (bytes_eq ctid) app.contexts context new there refl)) was

    order : IsInOrder (with_app r apid (with_context app ctid new))
    order = in_order-with_app r apid app (with_context app ctid new) fit.order found refl now

    levels : (slot : ℕ) → level_at (with_app r apid (with_context app ctid new)) slot ≡ cond (has_slot app.number slot context) (Some (effective r.level new)) (level_at r slot)
    levels = level_at-places r apid app (with_context app ctid new) fit.order found refl (places_of context) (Some (effective r.level new)) (places_below ctid app.contexts context there was.below)
        (level_of-changed r.level app ctid context new there now (λ n here. here))

-- the change that the call makes
pub one-changed : (r : Registry) (apid ctid : List ℕ) (own : Option ℕ) (app : App) (context : Context) → lookup (bytes_eq apid) r.apps ≡ Some app → context_of app ctid ≡ Some context
    → record r { apps = changed_app apid (changed_context ctid (leveled own)) r.apps } ≡ with_app r apid (with_context app ctid (leveled own context))
one-changed r apid ctid own app context found there =
    ap (λ o. record r { apps = option_map_or (λ a. set_value (bytes_eq apid) r.apps (changed_context ctid (leveled own) a)) o r.apps }) found
    ∙ ap (λ o. with_app r apid (option_map_or (λ c. with_context app ctid (leveled own c)) o app)) there

-- ---- the table, where the slots of that application alone get their levels

-- what is written of an application with new levels, and what stays of the others
app-levels : (r : Registry) (apid : List ℕ) (relevel : Relevel) (app : App) → IsInOrder r → lookup (bytes_eq apid) r.apps ≡ Some app
    → (slot : ℕ) → option_or (level_in_app r.level (releveled_in relevel apid app) slot) (level_at r slot) ≡ level_at (with_app r apid (releveled_in relevel apid app)) slot
app-levels r apid relevel app is found slot =
    ap (λ o. option_or o (level_at r slot)) (level_in_app-is r.level new slot placed)
    ∙ (elim (eqb_tells app.number (slot / 64)) [
      | inl here ↦
          ap (λ b. option_or (cond b (level_of r.level (Some new) slot) None) (level_at r slot)) here.0
          ∙ (ap (option_or (level_of r.level (Some new) slot)) (level_at-found r apid app new is found refl slot here.1)
          ∙ (or_old (level_of r.level (Some new) slot) (level_of r.level (Some app) slot) (context_stays r.level r.level relevel apid (slot % 64) app.contexts)
          ∙ sym (ap (λ b. cond b (level_of r.level (Some new) slot) (level_at r slot)) here.0)))
      | inr other ↦
          ap (λ b. option_or (cond b (level_of r.level (Some new) slot) None) (level_at r slot)) other.0
          ∙ sym (ap (λ b. cond b (level_of r.level (Some new) slot) (level_at r slot)) other.0)
    ]
    ∙ sym (level_at-replaced r apid app new is found refl slot))
  where
    new : App
    new = releveled_in relevel apid app

    placed : IsNumbered 64 (places new.contexts)
    placed = subst (IsNumbered 64) (sym (releveled_places relevel apid app.contexts)) (placed_of_found r apid app is found)

pub fits-app : (r : Registry) (t u : Table) (apid ctid : List ℕ) (own : Option ℕ) → Fits r t → is_pattern apid ≡ false → IsDistinct bytes_eq (keys_of r.apps) → wears (held_at t.first t.held) r r.level (set_matching apid ctid own) ≡ false
    → u.first ≡ t.first → u.held ≡ t.held → ((slot : ℕ) → 1024 ≤ slot → wanted_at u slot ≡ wanted_at t slot)
    → ((slot : ℕ) → slot < 1024
    → wanted_at u slot ≡ option_or (level_named r.level (changed_app apid (releveled_in (set_matching apid ctid own) apid) r.apps) apid slot) (wanted_at t slot))
    → Fits (record r { apps = changed_app apid (releveled_in (set_matching apid ctid own) apid) r.apps }) u
fits-app r t u apid ctid own fit some apart fresh first held outside inside =
    subst (λ (n : Registry). Fits n u) releveled_is
    (fits-levels r t u r.level relevel fit fresh first held
    (λ slot. elim (cases_lt slot 1024) [
      | inl within ↦ inside slot within ∙ (ap (option_or (level_named r.level new.apps apid slot)) (fit.levels slot) ∙ levels slot (lookup (bytes_eq apid) r.apps) refl)
      | inr out ↦ outside slot out ∙ (fit.levels slot ∙ (beyond r slot fit.order out ∙ sym (beyond new slot order out)))
    ]
    ∙ sym (ap (λ (n : Registry). level_at n slot) releveled_is)))
  where
    relevel : Relevel
    relevel = set_matching apid ctid own

    new : Registry
    new = record r { apps = changed_app apid (releveled_in relevel apid) r.apps }

    releveled_is : releveled r.level relevel r ≡ new
    releveled_is = app-releveled r apid ctid some apart own

    order : IsInOrder new
    order = subst IsInOrder releveled_is (in_order-releveled r.level relevel r fit.order)

    levels : (slot : ℕ) (o : Option App) → lookup (bytes_eq apid) r.apps ≡ o
        → option_or (level_named r.level (option_map_or (λ app. set_value (bytes_eq apid) r.apps (releveled_in relevel apid app)) o r.apps) apid slot) (level_at r slot)
        ≡ level_at (record r { apps = option_map_or (λ app. set_value (bytes_eq apid) r.apps (releveled_in relevel apid app)) o r.apps }) slot
    levels slot None none = ap (λ o. option_or (option_and_then (λ app. level_in_app r.level app slot) o) (level_at r slot)) none
    levels slot (Some app) found =
        ap (λ o. option_or (option_and_then (λ a. level_in_app r.level a slot) o) (level_at r slot)) (lookup-set_same apid r.apps app (releveled_in relevel apid app) found)
        ∙ app-levels r apid relevel app fit.order found slot
