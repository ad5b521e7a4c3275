-- A call that loads a slot of the context of its ids holds the level of this context, where no Level event is owed.
use Rattle.std.proofs.Common.{◌≡◌, ℕ, ◌/◌, ◌%◌, ◌<◌, Bool, true, false, cond, eqb, List, [], ◌∷◌, Option, Some, None, refl, sym, ap, subst, ◌∙◌, arith, IfSome, true≢false}
use Rattle.std.specs.Prelude.{◌||◌, nat_eq}
use Rattle.std.specs.List.{AllByRecursion, IsDistinct, find, list_any}
use Rattle.std.specs.Map.{lookup, values_of}
use Rattle.std.specs.Option.{option_and_then, option_map}
use Rattle.std.specs.Str.{bytes_eq}
use Rattle.std.proofs.lemmas.Bool.{eq-eqb, eqb-true}
use Rattle.std.proofs.lemmas.Map.Keys.{IsDistinct-head, IsDistinct-tail}
use Rattle.dl_model.specs.declared.context.Context.{Context}
use Rattle.dl_model.specs.Journal.{IsSettled, registry_of, slots_of}
use Rattle.dl_script_model.specs.Marks.{Call, Mark, journal}
use Rattle.dl_model.specs.Registry.{App, Registry, context_at, context_named, context_of, effective, has_place, level_at, numbers, places, places_of}
use Rattle.dl_model.specs.Setting.{Setting}
use Rattle.dl_model.proofs.Order.{in_order-registry_of, placed_of_found}
use Rattle.dl_model.proofs.Placed.{apart-right}
use Rattle.dl_runs.specs.RunRecords.{IsLoadedIn}
use Rattle.dl_laws.proofs.LevelsInForce.{in_force}
use Rattle.dl_script_runs.specs.OwnSlots.{IsInOwnSlot, level_named}
use Rattle.dl_script_runs.proofs.DeclaredSlots.{lookup_place, not_twice}
use Rattle.dl_script_runs.proofs.LeftFree.{found_number}
use Rattle.dl_script_runs.proofs.StayingContexts.{Has}

-- where numbers differ, an application is found by its number
found_app : (number : ℕ) (id : List ℕ) (es : List (List ℕ × App)) (a : App) → IsDistinct nat_eq (numbers es) → lookup (bytes_eq id) es ≡ Some a → a.number ≡ number → find (λ (x : App). eqb x.number number) (values_of es) ≡ Some a
found_app number id [] a apart found is = absurd cc
found_app number id (e ∷ es) a apart found is =
    by (bytes_eq id e.0) found (λ later. found_app number id es a (IsDistinct-tail nat_eq e.1.number (numbers es) apart) later is) where
      by : (b : Bool) → cond b (Some e.1) (lookup (bytes_eq id) es) ≡ Some a → (lookup (bytes_eq id) es ≡ Some a → find (λ (x : App). eqb x.number number) (values_of es) ≡ Some a) →
          cond (eqb e.1.number number) (Some e.1) (find (λ (x : App). eqb x.number number) (values_of es)) ≡ Some a
      by true here next =
          let same : e.1 ≡ a = cc in
          ap (λ (b : Bool). cond b (Some e.1) (find (λ (x : App). eqb x.number number) (values_of es))) (eq-eqb e.1.number number (ap (λ (x : App). x.number) same ∙ is)) ∙ ap Some same
      by false later next =
          let other = found_number (λ n. nat_eq e.1.number n ≡ false) (bytes_eq id) es a later (IsDistinct-head nat_eq e.1.number (numbers es) apart) in
          ap (λ (b : Bool). cond b (Some e.1) (find (λ (x : App). eqb x.number number) (values_of es))) (ap (eqb e.1.number) (sym is) ∙ other) ∙ next later

-- where places differ, a context is found by each of its places
found_context : (place : ℕ) (id : List ℕ) (cs : List (List ℕ × Context)) (c : Context) → IsDistinct nat_eq (places cs) → lookup (bytes_eq id) cs ≡ Some c → Has place c → find (has_place place) (values_of cs) ≡ Some c
found_context place id [] c apart found has = absurd cc
found_context place id (e ∷ cs) c apart found has =
    by (bytes_eq id e.0) (has_place place e.1) refl found (λ later. found_context place id cs c (apart-right (places_of e.1) (places cs) apart) later has) where
      by : (b own : Bool) → has_place place e.1 ≡ own → cond b (Some e.1) (lookup (bytes_eq id) cs) ≡ Some c → (lookup (bytes_eq id) cs ≡ Some c → find (has_place place) (values_of cs) ≡ Some c) →
          cond own (Some e.1) (find (has_place place) (values_of cs)) ≡ Some c
      by true true is here next = here
      by true false is here next =
          let same : e.1 ≡ c = cc in
          absurd (true≢false (sym (ap (has_place place) same ∙ has) ∙ is))
      by false true is later next = absurd (not_twice place (places_of e.1) (places cs) apart is (lookup_place place (bytes_eq id) cs c later has))
      by false false is later next = next later

-- a place of a context is below 64
place_below : (place : ℕ) (ns : List ℕ) → AllByRecursion (λ n. n < 64) ns → list_any (nat_eq place) ns ≡ true → place < 64
place_below place [] below has = absurd (true≢false (sym has))
place_below place (n ∷ ns) below has = by (nat_eq place n) refl has (place_below place ns below.1) where
  by : (b : Bool) → nat_eq place n ≡ b → (b || list_any (nat_eq place) ns) ≡ true → (list_any (nat_eq place) ns ≡ true → place < 64) → place < 64
  by true here has next = omega (arith, below.0, eqb-true place n here)
  by false past has next = next has

-- the two of a pair of ids
record IsFound (r : Registry) (apid ctid : List ℕ) (app : App) (context : Context) : Type 0 where
  there : lookup (bytes_eq apid) r.apps ≡ Some app
  named : context_of app ctid ≡ Some context

found_of : (r : Registry) (apid ctid : List ℕ) (app : App) (context : Context) → context_named r apid ctid ≡ Some (app, context) → IsFound r apid ctid app context
found_of r apid ctid app context e = by_app (lookup (bytes_eq apid) r.apps) refl e where
  by_context : (a : App) → lookup (bytes_eq apid) r.apps ≡ Some a → (o : Option Context) → context_of a ctid ≡ o → option_map {U = App × Context} (λ (c : Context). (a, c)) o ≡ Some (app, context) → IsFound r apid ctid app context
  by_context a found None is e = absurd cc
  by_context a found (Some c) is e =
      let pair : (a, c) ≡ (app, context) = cc in
      let same : a ≡ app = ap (λ (p : App × Context). p.0) pair in
      record { there = found ∙ ap Some same; named = ap (λ (x : App). context_of x ctid) (sym same) ∙ is ∙ ap (λ (p : App × Context). Some p.1) pair }

  by_app : (o : Option App) → lookup (bytes_eq apid) r.apps ≡ o → option_and_then (λ (a : App). option_map {U = App × Context} (λ (c : Context). (a, c)) (context_of a ctid)) o ≡ Some (app, context) → IsFound r apid ctid app context
  by_app None is e = absurd cc
  by_app (Some a) is e = by_context a is (context_of a ctid) refl e

pub held_is : (setting : Setting) (done : List Mark) (call : Call) (loaded : IsLoadedIn setting done call) → IsSettled setting (journal loaded.before) → IsInOwnSlot (registry_of setting (journal loaded.before)) call →
    level_named (registry_of setting (journal loaded.before)) call.item.apid call.item.ctid ≡ Some call.held
held_is setting done call loaded settled is =
    let events = journal loaded.before in
    let r = registry_of setting events in
    let two = found_of r call.item.apid call.item.ctid is.app is.context is.named in
    let order = in_order-registry_of setting events in
    let placed = placed_of_found r call.item.apid is.app order two.there in
    let below = place_below is.place (places is.app.contexts) placed.below (lookup_place is.place (bytes_eq call.item.ctid) is.app.contexts is.context two.named is.placed) in
    let number : call.slot / 64 ≡ call.item.app = omega (arith, below, is.slot) in
    let place : call.slot % 64 ≡ is.place = omega (arith, below, is.slot) in
    let at : context_at r call.slot ≡ Some is.context =
    ap (λ (n : ℕ). option_and_then (λ (a : App). find (has_place (call.slot % 64)) (values_of a.contexts)) (find (λ (a : App). eqb a.number n) (values_of r.apps))) number
    ∙ ap (option_and_then (λ (a : App). find (has_place (call.slot % 64)) (values_of a.contexts))) (found_app call.item.app call.item.apid r.apps is.app order.numbered.apart two.there is.number)
    ∙ ap (λ (p : ℕ). find (has_place p) (values_of is.app.contexts)) place ∙ found_context is.place call.item.ctid is.app.contexts is.context placed.apart two.named is.placed in
    let level : level_at r call.slot ≡ Some (effective r.level is.context) = ap (option_map (effective r.level)) at in
    let holds : (slots_of setting events call.slot).level ≡ effective r.level is.context =
    subst (λ (o : Option ℕ). IfSome o (λ n. (slots_of setting events call.slot).level ≡ n)) level (in_force setting events settled call.slot) in
    ap (option_map (λ (found : App × Context). effective r.level found.1)) is.named ∙ ap Some (sym (loaded.held ∙ holds))
