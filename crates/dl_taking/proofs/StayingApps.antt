-- The applications of this process that are there stay there with events that are no user messages.
use Rattle.std.proofs.Common.{◌≡◌, ℕ, Bool, true, false, cond, List, [], ◌∷◌, ◌++◌, map, Option, Some, None, refl, sym, ap, subst, ◌∙◌, append-nil, append_assoc}
use Rattle.std.specs.Prelude.{◌==◌, if◌then◌else◌, is_some, IsSome}
use Rattle.std.specs.List.{AllByRecursion, find}
use Rattle.std.specs.Map.{lookup}
use Rattle.std.specs.Option.{option_and_then, option_map}
use Rattle.std.specs.Str.{bytes_eq}
use Rattle.std.proofs.lemmas.Simd.{map-map}
use Rattle.dl_bytes.specs.Claim.{Claimed}
use Rattle.dl_control.specs.declared.request.Request.{Request}
use Rattle.dl_events.specs.declared.event.Event.{Event}
use Rattle.dl_events.specs.declared.event.Event.TheVariants as event
use Rattle.dl_model.specs.declared.registry.Slot.{Slot}
use Rattle.dl_model.specs.Journal.{registry_of, slots_of, step}
use Rattle.dl_model.specs.Registry.{App, Registry, apid_numbered, app_of, numbers, of_channel}
use Rattle.dl_model.specs.Reply.{asked}
use Rattle.dl_model.specs.Setting.{Setting}
use Rattle.dl_model.proofs.OneMore.{registry-one}
use Rattle.dl_model.proofs.StandingApps.{Who, claim_same, request_same, there, who}
use Rattle.dl_registry.specs.Kept.{Claims, Kept, slots}
use Rattle.dl_core.specs.Follows.{IsAfter, Run}
use Rattle.dl_core.specs.State.{Core}
use Rattle.dl_taking.specs.Takes.{AreThere}

-- no message of an application
abbrev pub NoMessage : Event → Type 0
NoMessage (event.User channel msg moment) = ⊥
NoMessage other = Unit {0}

-- ---- what leaves who is there

-- an event that is no message
event_same : (s : Setting) (slots : ℕ → Slot) (r : Registry) (e : Event) → NoMessage e → there (step s slots r e) ≡ there r
event_same s slots r (event.Log app writer call moment) none = refl
event_same s slots r (event.Lost app count moment) none = refl
event_same s slots r (event.User channel msg moment) none = absurd none
event_same s slots r (event.Claim claim moment) none = claim_same r slots claim
event_same s slots r (event.Level slot level) none = refl
event_same s slots r (event.Connect client) none = refl
event_same s slots r (event.Request client frame answer) none = request_same r s slots (asked frame) answer
event_same s slots r (event.Close client why) none = refl

-- and many of them
events_same : (s : Setting) (past more : List Event) → AllByRecursion NoMessage more → there (registry_of s (past ++ more)) ≡ there (registry_of s past)
events_same s past [] none = ap (λ (es : List Event). there (registry_of s es)) (append-nil past)
events_same s past (e ∷ more) none =
    ap (λ (es : List Event). there (registry_of s es)) (sym (append_assoc past (e ∷ []) more)) ∙ events_same s (past ++ e ∷ []) more none.1
    ∙ ap there (registry-one s past e) ∙ event_same s (slots_of s past) (registry_of s past) e none.0

-- ---- who is there tells which numbers are

-- the id of the one with this number
abbrev id_at : ℕ → List Who → Option (List ℕ)
id_at number [] = None
id_at number (one ∷ all) = if one.number == number then Some one.apid else id_at number all

-- the one with this id is of this process
abbrev is_own : List ℕ → List Who → Bool
is_own apid [] = false
is_own apid (one ∷ all) = if bytes_eq apid one.apid then one.channel == 0 else is_own apid all

id_found : (number : ℕ) (es : List (List ℕ × App)) → option_map (λ (e : List ℕ × App). e.0) (find (λ (e : List ℕ × App). e.1.number == number) es) ≡ id_at number (map who es)
id_found number [] = refl
id_found number (e ∷ es) = by (id_found number es) (e.1.number == number) where
  by : option_map (λ (x : List ℕ × App). x.0) (find (λ (x : List ℕ × App). x.1.number == number) es) ≡ id_at number (map who es) → (b : Bool) → option_map (λ (x : List ℕ × App). x.0) (cond b (Some e) (find (λ (x : List ℕ × App). x.1.number == number) es)) ≡ cond b (Some e.0) (id_at number (map who es))
  by rest true = refl
  by rest false = rest

own_found : (apid : List ℕ) (es : List (List ℕ × App)) → is_some (option_and_then (of_channel 0) (lookup (bytes_eq apid) es)) ≡ is_own apid (map who es)
own_found apid [] = refl
own_found apid (e ∷ es) = by (own_found apid es) (bytes_eq apid e.0) where
  here : (b : Bool) → is_some (cond {A = Option App} b (Some e.1) None) ≡ b
  here true = refl
  here false = refl

  by : is_some (option_and_then (of_channel 0) (lookup (bytes_eq apid) es)) ≡ is_own apid (map who es) → (b : Bool) → is_some (option_and_then (of_channel 0) (cond b (Some e.1) (lookup (bytes_eq apid) es))) ≡ cond b (e.1.channel == 0) (is_own apid (map who es))
  by rest true = here (e.1.channel == 0)
  by rest false = rest

-- so many numbers stand where as many stood
numbers_stand : (old new : Registry) → there new ≡ there old → (number : ℕ) → IsSome (option_and_then (app_of old 0) (apid_numbered old number)) → IsSome (option_and_then (app_of new 0) (apid_numbered new number))
numbers_stand old new same number some =
    let id : apid_numbered new number ≡ apid_numbered old number = id_found number new.apps ∙ ap (id_at number) same ∙ sym (id_found number old.apps) in
    subst (λ (o : Option (List ℕ)). IsSome (option_and_then (app_of new 0) o)) (sym id) (by (apid_numbered old number) some) where
      alike : (apid : List ℕ) → is_some (app_of new 0 apid) ≡ is_some (app_of old 0 apid)
      alike apid = own_found apid new.apps ∙ ap (is_own apid) same ∙ sym (own_found apid old.apps)

      by : (o : Option (List ℕ)) → IsSome (option_and_then (app_of old 0) o) → IsSome (option_and_then (app_of new 0) o)
      by None some = some
      by (Some apid) some = alike apid ∙ some

-- a claim leaves the numbers as they are, and who is there
pub claim_numbers : (claim : Claimed) (old new : Kept) → Claims claim old new → numbers new.registry.apps ≡ numbers old.registry.apps
claim_numbers claim old new claims =
    sym (map-map (λ (w : Who). w.number) who new.registry.apps)
    ∙ ap (map (λ (w : Who). w.number)) (ap (λ (k : Kept). there k.registry) claims ∙ claim_same old.registry (slots old) claim) ∙ map-map (λ (w : Who). w.number) who old.registry.apps

pub claim_there : (claim : Claimed) (old new : Kept) (apps : ℕ) → Claims claim old new → AreThere apps old → AreThere apps new
claim_there claim old new apps claims are app within =
    numbers_stand old.registry new.registry (ap (λ (k : Kept). there k.registry) claims ∙ claim_same old.registry (slots old) claim) app (are app within)

-- ---- in a run

-- applications that are there stay there
pub still_there : (run : Run) (past more : List Event) (taken taken_now : ℕ → List ℕ) (old new : Core) (apps : ℕ) → IsAfter run past taken old → IsAfter run (past ++ more) taken_now new → AllByRecursion NoMessage more
    → AreThere apps old.registry → AreThere apps new.registry
still_there run past more taken taken_now old new apps is is_now none are app within =
    numbers_stand old.registry.registry new.registry.registry
    (ap there is_now.registry.registry ∙ events_same run.setting past more none ∙ sym (ap there is.registry.registry)) app (are app within)
