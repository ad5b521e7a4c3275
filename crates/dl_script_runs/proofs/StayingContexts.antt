-- What an application of this process keeps by the events of a script: its contexts, and their places.
use Rattle.std.proofs.Common.{◌≡◌, ◌≢◌, ℕ, ◌≤◌, Bool, true, false, cond, List, [], ◌∷◌, ◌++◌, map, Option, Some, None, refl, sym, ap, subst, ◌∙◌, append_assoc, append-nil, arith, unwrap_or, IfOk, inl, inr}
use Rattle.std.specs.Prelude.{◌||◌, nat_eq}
use Rattle.std.specs.List.{AllByRecursion, list_any}
use Rattle.std.specs.Map.{lookup, set_value}
use Rattle.std.specs.Option.{option_or}
use Rattle.std.specs.Str.{bytes_eq}
use Rattle.std.proofs.lemmas.List.Folds.{list_any-append}
use Rattle.dl_bytes.specs.Claim.{Claimed}
use Rattle.dl_bytes.specs.declared.user.UserMsg.{UserMsg}
use Rattle.dl_bytes.specs.declared.user.UserMsg.TheVariants.{RegisterApp, UnregisterApp, RegisterContext, UnregisterContext, Log, LogLevel, Injection, Overflow}
use Rattle.dl_events.specs.declared.event.Event.{Event}
use Rattle.dl_events.specs.declared.event.Event.TheVariants as event
use Rattle.dl_model.specs.declared.context.Context.{Context}
use Rattle.dl_model.specs.declared.registry.Slot.{Slot}
use Rattle.dl_model.specs.Journal.{registry_of, slots_of, step}
use Rattle.dl_model.specs.Registry.{App, Registry, Relevel, applied, claimed, has_place, places_of, releveled_app, releveled_context, with_app, without}
use Rattle.dl_model.specs.Reply.{asked}
use Rattle.dl_model.specs.Setting.{Setting}
use Rattle.dl_model.proofs.OneMore.{registry-one}
use Rattle.dl_model.proofs.Changes.{app_registers, app_unregisters, claim_makes, context_registers, context_unregisters, served_makes}
use Rattle.dl_model.proofs.Presence.{bytes_tell, lookup-push, lookup-set_other, lookup-set_same, lookup-without_other}
use Rattle.dl_script_runs.proofs.FairMarks.{StaysIn, unregisters}
use Rattle.dl_script_runs.proofs.PresentApps.{ok_or}

-- ---- an entry of an id

-- the entry of this id is so
pub record Holds {X : Type 0} (id : List ℕ) (Q : X → Type 0) (entries : List (List ℕ × X)) : Type 0 where
  pub entry : X
  pub there : lookup (bytes_eq id) entries ≡ Some entry
  pub is : Q entry

module _ {X : Type 0} (id : List ℕ) (Q : X → Type 0) where
  -- an entry is changed
  pub set_holds : (k : List ℕ) (old new : X) (es : List (List ℕ × X)) → lookup (bytes_eq k) es ≡ Some old → (id ≡ k → Q old → Q new) → Holds id Q es → Holds id Q (set_value (bytes_eq k) es new)
  set_holds k old new es found keeps was = elim (bytes_tell id k) as (λ _. Holds id Q (set_value (bytes_eq k) es new)) [
    | inl same ↦
        let here : lookup (bytes_eq k) es ≡ Some was.entry = ap (λ (i : List ℕ). lookup (bytes_eq i) es) (sym same.1) ∙ was.there in
        let is : was.entry ≡ old = cc in
        record {
          entry = new;
          there = ap (λ (i : List ℕ). lookup (bytes_eq i) (set_value (bytes_eq k) es new)) same.1 ∙ lookup-set_same k es old new found;
          is = keeps same.1 (subst Q is was.is);
        }
    | inr other ↦ record { entry = was.entry; there = lookup-set_other id k es new (λ same. other.1 (sym same)) ∙ was.there; is = was.is }
  ]

  -- another one comes behind it
  pub push_holds : (k : List ℕ) (new : X) (es : List (List ℕ × X)) → Holds id Q es → Holds id Q (es ++ (k, new) ∷ [])
  push_holds k new es was = record {
    entry = was.entry;
    there = lookup-push (bytes_eq id) es k new ∙ ap (λ (o : Option X). option_or o (cond (bytes_eq id k) (Some new) None)) was.there;
    is = was.is;
  }

  -- those of another id go
  pub without_holds : (k : List ℕ) (es : List (List ℕ × X)) → id ≢ k → Holds id Q es → Holds id Q (without k es)
  without_holds k es other was = record { entry = was.entry; there = lookup-without_other id k es (λ same. other (sym same)) ∙ was.there; is = was.is }

  -- all are changed
  pub map_holds : (f : List ℕ × X → X) → ((k : List ℕ) (x : X) → Q x → Q (f (k, x))) → (es : List (List ℕ × X)) → Holds id Q es → Holds id Q (map (λ (e : List ℕ × X). (e.0, f e)) es)
  map_holds f keeps [] was = absurd (by was.there) where
    by : ◌≡◌ {A = Option X} None (Some was.entry) → ⊥
    by is = cc
  map_holds f keeps (e ∷ es) was = by (bytes_eq id e.0) refl was.there (λ found. map_holds f keeps es (record { entry = was.entry; there = found; is = was.is })) where
    by : (b : Bool) → bytes_eq id e.0 ≡ b → cond b (Some e.1) (lookup (bytes_eq id) es) ≡ Some was.entry
        → (lookup (bytes_eq id) es ≡ Some was.entry → Holds id Q (map (λ (e : List ℕ × X). (e.0, f e)) es)) → Holds id Q (map (λ (e : List ℕ × X). (e.0, f e)) (e ∷ es))
    by true here found next =
        let same : e.1 ≡ was.entry = cc in
        record {
          entry = f e;
          there = ap (λ (b : Bool). cond b (Some (f e)) (lookup (bytes_eq id) (map (λ (e : List ℕ × X). (e.0, f e)) es))) here;
          is = keeps e.0 e.1 (subst Q (sym same) was.is);
        }
    by false past found next =
        let rest = next found in
        record { entry = rest.entry; there = ap (λ (b : Bool). cond b (Some (f e)) (lookup (bytes_eq id) (map (λ (e : List ℕ × X). (e.0, f e)) es))) past ∙ rest.there; is = rest.is }

-- ---- a context of an application

-- a context that has this place
abbrev pub Has : ℕ → Context → Type 0
Has place context = has_place place context ≡ true

-- an application of this process, which has this number, and a context of this id with this place
pub record Seats (number : ℕ) (ctid : List ℕ) (place : ℕ) (app : App) : Type 0 where
  pub own : app.channel ≡ 0
  pub number_is : app.number ≡ number
  pub context : Holds ctid (Has place) app.contexts

more_places : (place more : ℕ) (context : Context) → Has place context → list_any (nat_eq place) (places_of context ++ more ∷ []) ≡ true
more_places place more context was = list_any-append (nat_eq place) (places_of context) (more ∷ []) ∙ ap (λ (b : Bool). b || list_any (nat_eq place) (more ∷ [])) was

module _ (apid : List ℕ) (number : ℕ) (ctid : List ℕ) (place : ℕ) where
  abbrev Q : App → Type 0
  Q = Seats number ctid place

  abbrev pub Seated : Registry → Type 0
  Seated r = Holds apid Q r.apps

  with_contexts : (app : App) (contexts : List (List ℕ × Context)) → Holds ctid (Has place) contexts → Q app → Q (record app { contexts = contexts })
  with_contexts app contexts now was = record { own = was.own; number_is = was.number_is; context = now }

  -- levels are set
  leveled : (relevel : Relevel) (es : List (List ℕ × App)) → Holds apid Q es → Holds apid Q (map (releveled_app relevel) es)
  leveled relevel = map_holds apid Q (λ e. (releveled_app relevel e).1) (λ id app was.
      with_contexts app (map (releveled_context relevel id) app.contexts)
      (map_holds ctid (Has place) (λ c. (releveled_context relevel id c).1) (λ k context has. has) app.contexts was.context) was)

  module _ (r : Registry) (was : Seated r) where
    -- an application of another process is another one
    other_app : (id : List ℕ) (app : App) → lookup (bytes_eq id) r.apps ≡ Some app → 1 ≤ app.channel → apid ≢ id
    other_app id app found from same =
        let here : lookup (bytes_eq id) r.apps ≡ Some was.entry = ap (λ (i : List ℕ). lookup (bytes_eq i) r.apps) (sym same) ∙ was.there in
        let is : was.entry ≡ app = cc in
        absurd (omega (arith, from, ap (λ (a : App). a.channel) is, was.is.own))

    -- an application has other contexts, with those places
    changed : (id : List ℕ) (app : App) (contexts : List (List ℕ × Context)) → lookup (bytes_eq id) r.apps ≡ Some app → (apid ≡ id → Holds ctid (Has place) app.contexts → Holds ctid (Has place) contexts) → Seated (with_app r id (record app { contexts = contexts }))
    changed id app contexts found keeps = set_holds apid Q id app (record app { contexts = contexts }) r.apps found (λ same is. with_contexts app contexts (keeps same is.context) is) was

    told_seated : (slots : ℕ → Slot) (channel : ℕ) (msg : UserMsg) → (unregisters msg ≡ true → 1 ≤ channel) → IfOk (applied slots r channel msg) Seated
    told_seated slots channel (RegisterApp id pid text) stays =
        app_registers slots r channel Seated id pid text
        (λ app found of. set_holds apid Q id app (record app { pid = pid; text = text }) r.apps found (λ _ is. record { own = is.own; number_is = is.number_is; context = is.context }) was)
        (λ none room. push_holds apid Q id _ r.apps was)
    told_seated slots channel (UnregisterApp id pid) stays =
        app_unregisters slots r channel Seated id pid (λ app found of. without_holds apid Q id r.apps (other_app id app found (omega (arith, stays refl, of))) was)
    told_seated slots channel (RegisterContext id k position level trace pid text) stays =
        context_registers slots r channel Seated id k position level trace pid text
        (λ app context found of there. changed id app _ found (λ _. set_holds ctid (Has place) k context (record context { position = position; text = text }) app.contexts there (λ _ has. has)))
        (λ app found of there room. changed id app _ found (λ _. push_holds ctid (Has place) k _ app.contexts))
    told_seated slots channel (UnregisterContext id k pid) stays =
        context_unregisters slots r channel Seated id k pid (λ app context found of there. changed id app _ found (λ same. absurd (other_app id app found (omega (arith, stays refl, of)) same)))
    told_seated slots channel (Log bytes) stays = was
    told_seated slots channel (LogLevel level trace position) stays = was
    told_seated slots channel (Injection position service body) stays = was
    told_seated slots channel (Overflow counter id) stays = was

    claim_seated : (slots : ℕ → Slot) (claim : Claimed) → Seated (unwrap_or (claimed slots r claim) r)
    claim_seated slots claim =
        claim_makes slots r claim (λ o msgs. Seated (unwrap_or o r)) was
        (λ id app context may there. changed id app _ may.found (λ _. set_holds ctid (Has place) claim.ctid context _ app.contexts there (λ _ has. more_places place claim.place context has)))
        (λ id app may there. changed id app _ may.found (λ _. push_holds ctid (Has place) claim.ctid _ app.contexts))

    pub event_seated : (s : Setting) (slots : ℕ → Slot) (e : Event) → StaysIn e → Seated (step s slots r e)
    event_seated s slots (event.User channel msg moment) stays = ok_or Seated (applied slots r channel msg) r was (told_seated slots channel msg stays)
    event_seated s slots (event.Claim claim moment) stays = claim_seated slots claim
    event_seated s slots (event.Request client frame answer) stays = served_makes Seated r was (λ level relevel. leveled relevel r.apps was) (λ new stored is. is) s slots (asked frame) answer
    event_seated s slots _ stays = was

  -- along events
  pub seated_on : (s : Setting) (before events : List Event) → AllByRecursion StaysIn events → Seated (registry_of s before) → Seated (registry_of s (before ++ events))
  seated_on s before [] stay was = subst (λ (es : List Event). Seated (registry_of s es)) (sym (append-nil before)) was
  seated_on s before (e ∷ events) stay was =
      subst (λ (es : List Event). Seated (registry_of s es)) (append_assoc before (e ∷ []) events)
      (seated_on s (before ++ e ∷ []) events stay.1 (subst Seated (sym (registry-one s before e)) (event_seated (registry_of s before) was s (slots_of s before) e stay.0)))
