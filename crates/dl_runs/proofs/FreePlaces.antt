-- A place that no application has, and its slot, which has no level: until a claim of the place is taken.
use Rattle.std.proofs.Common.{◌≡◌, ℕ, ◌+◌, ◌/◌, ◌%◌, ◌<◌, Bool, true, false, cond, eqb, List, [], ◌∷◌, ◌++◌, map, Option, Some, None, refl, sym, ap, subst, ◌∙◌, append_assoc, arith, unwrap_or, inl, inr}
use Rattle.std.specs.Prelude.{nat_eq, ◌||◌}
use Rattle.std.specs.List.{AllByRecursion, find, list_any, cons_option}
use Rattle.std.specs.Map.{lookup, set_value, values_of}
use Rattle.std.specs.Option.{option_and_then, option_map, option_or}
use Rattle.std.specs.Str.{bytes_eq}
use Rattle.std.proofs.lemmas.Bool.{cases_eq, eqb-true, ne_eqb, eq-eqb}
use Rattle.std.proofs.lemmas.List.{append-nil}
use Rattle.std.proofs.lemmas.List.Folds.{list_any-append}
use Rattle.dl_lemmas.proofs.Bools.{neither}
use Rattle.dl_bytes.specs.Claim.{Claimed}
use Rattle.dl_events.specs.declared.event.Event.{Event}
use Rattle.dl_events.specs.declared.event.Event.TheVariants as event
use Rattle.dl_model.specs.declared.context.Context.{Context}
use Rattle.dl_model.specs.declared.registry.LevelChange.{LevelChange}
use Rattle.dl_model.specs.declared.registry.Slot.{Slot}
use Rattle.dl_model.specs.Accounts.{claims}
use Rattle.dl_model.specs.History.{level_for}
use Rattle.dl_model.specs.Journal.{owed, registry_of, slots_of}
use Rattle.dl_model.specs.Registry.{App, Registry, Relevel, all_slots, change_at, claimed, context_at, effective, first_change, has_place, level_at, places, places_of, releveled_app, slot_of, with_app, with_context, with_new_context}
use Rattle.dl_model.specs.Reply.{asked}
use Rattle.dl_model.specs.Setting.{Setting}
use Rattle.dl_model.proofs.OneMore.{registry-one, slot-other}
use Rattle.dl_model.proofs.Changes.{Claims, claim_makes, served_makes}
use Rattle.dl_model.proofs.Placed.{Among, places-push, places-further, releveled_places}
use Rattle.dl_model.proofs.Lists.{find-passes}
use Rattle.dl_laws.proofs.SlotChanges.{change_is}
use Rattle.dl_runs.specs.WaitingClaims.{IsFreeIn, IsUntaken, LeavesFree, MessagesLeaveFree}
use Rattle.dl_laws.proofs.UniqueIds.{numbered, unique-registry_of}

-- ---- the place of a claim more

or_none : (b c : Bool) → b ≡ false → c ≡ false → (b || c) ≡ false
or_none b c first second = ap (λ (x : Bool). x || c) first ∙ second

-- a place that is not among the places, and is not the one more
not_among : (place more : ℕ) (old new : List ℕ) → Among more old new → nat_eq place more ≡ false → list_any (nat_eq place) old ≡ false → list_any (nat_eq place) new ≡ false
not_among place more old new among apart none =
    let parts = neither (list_any (nat_eq place) among.before) (list_any (nat_eq place) among.behind) (sym (ap (list_any (nat_eq place)) among.was ∙ list_any-append (nat_eq place) among.before among.behind) ∙ none) in
    ap (list_any (nat_eq place)) among.is ∙ list_any-append (nat_eq place) among.before (more ∷ among.behind)
    ∙ or_none (list_any (nat_eq place) among.before) (nat_eq place more || list_any (nat_eq place) among.behind) parts.0 (or_none (nat_eq place more) (list_any (nat_eq place) among.behind) apart parts.1)

-- ---- the applications of a number do not have a place

module _ (number place : ℕ) where
  abbrev Lacks : App → Type 0
  Lacks app = app.number ≡ number → list_any (nat_eq place) (places app.contexts) ≡ false

  abbrev AllLack : List (List ℕ × App) → Type 0
  AllLack es = AllByRecursion (λ e. Lacks e.1) es

  pub lack-releveled : (relevel : Relevel) (es : List (List ℕ × App)) → AllLack es → AllLack (map (releveled_app relevel) es)
  lack-releveled relevel [] all = tt
  lack-releveled relevel (e ∷ es) all = ((λ here. ap (list_any (nat_eq place)) (releveled_places relevel e.0 e.1.contexts) ∙ all.0 here), lack-releveled relevel es all.1)

  pub lack-set_value : (test : List ℕ → Bool) (es : List (List ℕ × App)) (w : App) → AllLack es → Lacks w → AllLack (set_value test es w)
  lack-set_value test [] w all lacks = all
  lack-set_value test (e ∷ es) w all lacks = by (test e.0) (lack-set_value test es w all.1 lacks) where
    by : (b : Bool) → AllLack (set_value test es w) → AllLack (cond b ((e.0, w) ∷ es) (e ∷ set_value test es w))
    by true later = (lacks, all.1)
    by false later = (all.0, later)

  pub lack-lookup : (test : List ℕ → Bool) (es : List (List ℕ × App)) (app : App) → AllLack es → lookup test es ≡ Some app → Lacks app
  lack-lookup test [] app all found = absurd cc
  lack-lookup test (e ∷ es) app all found = by (test e.0) found (λ later. lack-lookup test es app all.1 later) where
    by : (b : Bool) → cond b (Some e.1) (lookup test es) ≡ Some app → (lookup test es ≡ Some app → Lacks app) → Lacks app
    by true is later = let same : e.1 ≡ app = cc in subst Lacks same all.0
    by false is later = later is

  lack-found : (test : App → Bool) (es : List (List ℕ × App)) (app : App) → AllLack es → find test (values_of es) ≡ Some app → Lacks app
  lack-found test [] app all found = absurd cc
  lack-found test (e ∷ es) app all found = by (test e.1) found (λ later. lack-found test es app all.1 later) where
    by : (b : Bool) → cond b (Some e.1) (find test (values_of es)) ≡ Some app → (find test (values_of es) ≡ Some app → Lacks app) → Lacks app
    by true is later = let same : e.1 ≡ app = cc in subst Lacks same all.0
    by false is later = later is

  -- a context with the place would have it among the places
  place_found : (cs : List (List ℕ × Context)) (context : Context) → find (has_place place) (values_of cs) ≡ Some context → list_any (nat_eq place) (places cs) ≡ true
  place_found [] context found = absurd cc
  place_found (c ∷ cs) context found = by (has_place place c.1) refl found (λ later. place_found cs context later) where
    by : (b : Bool) → has_place place c.1 ≡ b → cond b (Some c.1) (find (has_place place) (values_of cs)) ≡ Some context → (find (has_place place) (values_of cs) ≡ Some context → list_any (nat_eq place) (places cs) ≡ true)
        → list_any (nat_eq place) (places (c ∷ cs)) ≡ true
    by true here is later = list_any-append (nat_eq place) (places_of c.1) (places cs) ∙ ap (λ (b : Bool). b || list_any (nat_eq place) (places cs)) here
    by false here is later =
        list_any-append (nat_eq place) (places_of c.1) (places cs) ∙ ap (λ (b : Bool). b || list_any (nat_eq place) (places cs)) here ∙ later is

  -- so their slot has no context
  no_context : (r : Registry) → place < 64 → AllLack r.apps → (context : Context) → context_at r (slot_of number place) ≡ Some context → ⊥
  no_context r below all context found = by_app (find (λ (app : App). eqb app.number (slot_of number place / 64)) (values_of r.apps)) refl found where
    by_app : (o : Option App) → find (λ (app : App). eqb app.number (slot_of number place / 64)) (values_of r.apps) ≡ o
        → option_and_then (λ (app : App). find (has_place (slot_of number place % 64)) (values_of app.contexts)) o ≡ Some context → ⊥
    by_app None is e = absurd cc
    by_app (Some app) is e =
        let mine : slot_of number place / 64 ≡ number = omega (arith, below) in
        let same_place : slot_of number place % 64 ≡ place = omega (arith, below) in
        let number_is : app.number ≡ number = eqb-true app.number (slot_of number place / 64) (find-passes (λ (a : App). eqb a.number (slot_of number place / 64)) (values_of r.apps) app is) ∙ mine in
        let none : list_any (nat_eq place) (places app.contexts) ≡ false = lack-found (λ (a : App). eqb a.number (slot_of number place / 64)) r.apps app all is number_is in
        let some : list_any (nat_eq place) (places app.contexts) ≡ true = place_found app.contexts context (subst (λ (p : ℕ). find (has_place p) (values_of app.contexts) ≡ Some context) same_place e) in
        absurd (cc (sym some ∙ none))

-- ---- a Level event is of a slot that has a context

first_there : (slots : ℕ → Slot) (r : Registry) (ns : List ℕ) (c : LevelChange) → first_change slots r ns ≡ Some c → level_at r c.slot ≡ Some c.level
first_there slots r [] c e = absurd cc
first_there slots r (n ∷ ns) c e = by (change_at slots r n) refl e (λ later. first_there slots r ns c later) where
  by : (o : Option LevelChange) → change_at slots r n ≡ o → option_or o (first_change slots r ns) ≡ Some c → (first_change slots r ns ≡ Some c → level_at r c.slot ≡ Some c.level) → level_at r c.slot ≡ Some c.level
  by None is e later = later e
  by (Some d) is e later =
      let parts = change_is slots r n c (is ∙ e) in
      subst (λ (m : ℕ). level_at r m ≡ Some c.level) (sym parts.0) parts.1

owed_there : (setting : Setting) (events : List Event) (c : LevelChange) → owed setting events ≡ Some c → level_at (registry_of setting events) c.slot ≡ Some c.level
owed_there setting events c e = first_there (slots_of setting events) (registry_of setting events) all_slots c e

has_context : (r : Registry) (slot level : ℕ) → level_at r slot ≡ Some level → (context : Context) × (context_at r slot ≡ Some context)
has_context r slot level e = by (context_at r slot) refl e where
  by : (o : Option Context) → context_at r slot ≡ o → option_map (effective r.level) o ≡ Some level → (context : Context) × (context_at r slot ≡ Some context)
  by None is e = absurd cc
  by (Some context) is e = (context, is)

-- the Level events of a run are those that are owed
abbrev pub IsOwed : Setting → List Event → Event → Type 0
IsOwed setting before (event.Level slot level) = owed setting before ≡ Some (record { slot = slot; level = level })
IsOwed setting before _ = Unit {0}

abbrev pub AreOwed : Setting → List Event → List Event → Type 0
AreOwed setting before [] = Unit {0}
AreOwed setting before (e ∷ events) = IsOwed setting before e × AreOwed setting (before ++ e ∷ []) events

pub first_owed : (setting : Setting) (before xs ys : List Event) → AreOwed setting before (xs ++ ys) → AreOwed setting before xs
first_owed setting before [] ys all = tt
first_owed setting before (x ∷ xs) ys all = (all.0, first_owed setting (before ++ x ∷ []) xs ys all.1)

-- ---- along a journal

-- no application has the place, and its slot has its first level
pub record IsUnused (setting : Setting) (app place : ℕ) (events : List Event) : Type 0 where
  pub free : IsFreeIn (registry_of setting events) app place
  pub slot : slots_of setting events (slot_of app place) ≡ record { version = setting.first; level = 0 }

module _ (setting : Setting) (app place : ℕ) (below : place < 64) where
  abbrev Free : Registry → Type 0
  Free r = IsFreeIn r app place

  -- a claim of another place, or of another application
  claim_leaves : (before : List Event) (claim : Claimed) → (claim.app ≡ app → claim.place ≡ place → ⊥) → Free (registry_of setting before)
      → Free (unwrap_or (claimed (slots_of setting before) (registry_of setting before) claim) (registry_of setting before))
  claim_leaves before claim other free =
      claim_makes (slots_of setting before) r claim (λ o msgs. Free (unwrap_or o r)) free
      (λ apid found context may there. elsewhere apid found (with_context found claim.ctid _) may refl (not_among place claim.place (places found.contexts) _ (places-further (bytes_eq claim.ctid) found.contexts context claim.place there)))
      (λ apid found may there. elsewhere apid found (with_new_context found claim.ctid _) may refl (λ apart none.
      ap (list_any (nat_eq place)) (places-push found.contexts claim.ctid _ refl) ∙ list_any-append (nat_eq place) (places found.contexts) (claim.place ∷ [])
      ∙ or_none (list_any (nat_eq place) (places found.contexts)) (nat_eq place claim.place || false) none (or_none (nat_eq place claim.place) false apart refl)))
    where
      r : Registry
      r = registry_of setting before

      elsewhere : (apid : List ℕ) (found new : App) → Claims r claim apid found → new.number ≡ found.number
          → (nat_eq place claim.place ≡ false → list_any (nat_eq place) (places found.contexts) ≡ false → list_any (nat_eq place) (places new.contexts) ≡ false) → Free (with_app r apid new)
      elsewhere apid found new may same lacks =
          let unique = numbered r.apps claim.app apid (unique-registry_of setting before) may.numbered in
          let is : found ≡ unique.app = cc (sym may.found ∙ unique.there) in
          let number_is : found.number ≡ claim.app = ap (λ (a : App). a.number) is ∙ unique.is in
          lack-set_value app place (bytes_eq apid) r.apps new free (λ here.
          let own : found.number ≡ app = sym same ∙ here in
          lacks (ne_eqb place claim.place (λ same_place. other (sym number_is ∙ own) (sym same_place))) (lack-lookup app place (bytes_eq apid) r.apps found free may.found own))

  abbrev Other : Event → Type 0
  Other (event.Claim claim moment) = claim.app ≡ app → claim.place ≡ place → ⊥
  Other _ = Unit {0}

  free_step : (before : List Event) (e : Event) → Other e → LeavesFree setting app place before e → Free (registry_of setting before) → Free (registry_of setting (before ++ e ∷ []))
  free_step before (event.User channel msg moment) other leaves free = leaves free
  free_step before (event.Claim claim moment) other leaves free = subst Free (sym (registry-one setting before (event.Claim claim moment))) (claim_leaves before claim other free)
  free_step before (event.Request client frame answer) other leaves free =
      subst Free (sym (registry-one setting before (event.Request client frame answer)))
      (served_makes Free (registry_of setting before) free (λ level relevel. lack-releveled app place relevel (registry_of setting before).apps free) (λ new stored is. is) setting (slots_of setting before) (asked frame) answer)
  free_step before (event.Log n writer call moment) other leaves free = subst Free (sym (registry-one setting before (event.Log n writer call moment))) free
  free_step before (event.Lost n count moment) other leaves free = subst Free (sym (registry-one setting before (event.Lost n count moment))) free
  free_step before (event.Level slot level) other leaves free = subst Free (sym (registry-one setting before (event.Level slot level))) free
  free_step before (event.Connect client) other leaves free = subst Free (sym (registry-one setting before (event.Connect client))) free
  free_step before (event.Close client why) other leaves free = subst Free (sym (registry-one setting before (event.Close client why))) free

  -- no Level event is of its slot
  not_leveled : (before : List Event) (e : Event) → IsOwed setting before e → Free (registry_of setting before) → level_for (slot_of app place) e ≡ None
  not_leveled before (event.Level slot level) is free = elim (cases_eq slot (slot_of app place)) [
    | inl same ↦
        let there = has_context (registry_of setting before) slot level (owed_there setting before (record { slot = slot; level = level }) is) in
        absurd (no_context app place (registry_of setting before) below free there.0 (subst (λ (s : ℕ). context_at (registry_of setting before) s ≡ Some there.0) same there.1))
    | inr apart ↦ ap (λ (b : Bool). cond b (Some level) None) (ne_eqb slot (slot_of app place) apart)
  ]
  not_leveled before _ is free = refl

  unused_step : (before : List Event) (e : Event) → IsOwed setting before e → Other e → LeavesFree setting app place before e → IsUnused setting app place before → IsUnused setting app place (before ++ e ∷ [])
  unused_step before e is other leaves unused = record {
    free = free_step before e other leaves unused.free;
    slot = slot-other setting.first before (slot_of app place) e (not_leveled before e is unused.free) ∙ unused.slot;
  }

  -- the first of events of which no claim is of the place
  untaken_first : (e : Event) (events : List Event) → IsUntaken app place (e ∷ events) → Other e × IsUntaken app place events
  untaken_first (event.Claim claim moment) events none = by (eqb claim.app app) refl none where
    by : (b : Bool) → eqb claim.app app ≡ b → AllByRecursion (λ (c : Claimed). c.place ≡ place → ⊥) (cons_option (cond b (Some claim) None) (claims app events)) → (claim.app ≡ app → claim.place ≡ place → ⊥) × IsUntaken app place events
    by true here all = ((λ same. all.0), all.1)
    by false here all = ((λ same. absurd (cc (sym (eq-eqb claim.app app same) ∙ here))), all)
  untaken_first _ events none = (tt, none)

  unused_on : (before events : List Event) → AreOwed setting before events → IsUntaken app place events → MessagesLeaveFree setting app place before events → IsUnused setting app place before
      → IsUnused setting app place (before ++ events)
  unused_on before [] all untaken leaves unused = subst (IsUnused setting app place) (sym (append-nil before)) unused
  unused_on before (e ∷ events) all untaken leaves unused =
      let parts = untaken_first e events untaken in
      subst (IsUnused setting app place) (append_assoc before (e ∷ []) events)
      (unused_on (before ++ e ∷ []) events all.1 parts.1 leaves.1 (unused_step before e all.0 parts.0 leaves.0 unused))

  none_used : IsUnused setting app place []
  none_used = record { free = tt; slot = λ i. record { version = zero_more setting.first i; level = 0 } } where
    zero_more : (n : ℕ) → n + 0 ≡ n
    zero_more n = omega arith

  pub unused : (events : List Event) → AreOwed setting [] events → IsUntaken app place events → MessagesLeaveFree setting app place [] events → IsUnused setting app place events
  unused events all untaken leaves = unused_on [] events all untaken leaves none_used
