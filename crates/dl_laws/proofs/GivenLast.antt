-- What a registry holds is what was given last: default level, stored levels, and an application's number and what it tells of itself.
use Rattle.std.proofs.Common.{◌≡◌, inl, inr, ℕ, ℤ, Bool, true, false, List, [], ◌∷◌, Option, Some, None, Result, Ok, Err, refl, sym, ap, subst}
use Rattle.std.specs.Prelude.{◌&&◌, is_some, if◌then◌else◌, unwrap_or, IfOk, IfSome}
use Rattle.std.specs.List.{last_or}
use Rattle.std.specs.Map.{lookup}
use Rattle.std.specs.Option.{is_none, option_map}
use Rattle.std.specs.Result.{result_unwrap_or}
use Rattle.std.specs.Str.{bytes_eq}
use Rattle.dl_bytes.specs.Claim.{Claimed}
use Rattle.dl_bytes.specs.Id.{zero_id}
use Rattle.dl_bytes.specs.declared.outcome.Done.{Done}
use Rattle.dl_bytes.specs.declared.outcome.Done.TheVariants as done
use Rattle.dl_bytes.specs.declared.user.UserMsg.{UserMsg}
use Rattle.dl_bytes.specs.declared.user.UserMsg.TheVariants.{RegisterApp, UnregisterApp, RegisterContext, UnregisterContext, Log, LogLevel, Injection, Overflow}
use Rattle.dl_control.specs.declared.request.Request.{Request}
use Rattle.dl_control.specs.declared.request.Request.TheVariants.{SetLogLevel, Store, Reset, SetDefault, SetAllLogLevel}
use Rattle.dl_control.specs.declared.request.RequestFault.{RequestFault}
use Rattle.dl_events.specs.declared.event.Event.{Event}
use Rattle.dl_events.specs.declared.event.Event.TheVariants as event
use Rattle.dl_model.specs.declared.context.Context.{Context}
use Rattle.dl_model.specs.declared.registry.RegistryFault.{RegistryFault}
use Rattle.dl_model.specs.declared.registry.Slot.{Slot}
use Rattle.dl_model.specs.Along.{along}
use Rattle.dl_model.specs.Journal.{registry_of, slots_of, start, step}
use Rattle.dl_model.specs.Registry.{App, Registry, Relevel, applied, claimed, least_free, numbers, releveled_app, with_app}
use Rattle.dl_model.specs.Reply.{asked, served}
use Rattle.dl_model.specs.Setting.{Setting}
use Rattle.dl_laws.specs.GivenLast.{AppTold, default_at, default_by_request, number_at, number_by_message, number_of, stored_at, stored_by_request, told_at, told_by_message, told_of}
use Rattle.dl_model.proofs.Changes.{app_registers, app_unregisters, claim_makes, context_registers, context_unregisters, default_makes, new_app, own_makes, reset_makes, served_makes}
use Rattle.dl_model.proofs.LastGiven.{Stepped, stays, given_last, message_gives}
use Rattle.dl_model.proofs.Presence.{at_set, at_new, at_gone, lookup-releveled_app}

-- ---- the default level and the stored levels

-- messages and claims leave both
abbrev Keeps : Registry → Registry → Type 0
Keeps r new = (new.level ≡ r.level) × (new.stored ≡ r.stored)

applied-keeps : (slots : ℕ → Slot) (r : Registry) (channel : ℕ) (msg : UserMsg) → IfOk (applied slots r channel msg) (Keeps r)
applied-keeps slots r channel (RegisterApp apid pid text) = app_registers slots r channel (Keeps r) apid pid text (λ app found of. (refl, refl)) (λ none room. (refl, refl))
applied-keeps slots r channel (UnregisterApp apid pid) = app_unregisters slots r channel (Keeps r) apid pid (λ app found of. (refl, refl))
applied-keeps slots r channel (RegisterContext apid ctid position level trace pid text) =
    context_registers slots r channel (Keeps r) apid ctid position level trace pid text (λ app context found of there. (refl, refl)) (λ app found of there room. (refl, refl))
applied-keeps slots r channel (UnregisterContext apid ctid pid) = context_unregisters slots r channel (Keeps r) apid ctid pid (λ app context found of there. (refl, refl))
applied-keeps slots r channel _ = (refl, refl)

message_keeps : (r : Registry) (result : Result Registry RegistryFault) → IfOk result (Keeps r) → Keeps r (result_unwrap_or result r)
message_keeps r (Ok new) keeps = keeps
message_keeps r (Err fault) keeps = (refl, refl)

claim_keeps : (slots : ℕ → Slot) (r : Registry) (claim : Claimed) → Keeps r (unwrap_or (claimed slots r claim) r)
claim_keeps slots r claim = claim_makes slots r claim (λ o msgs. Keeps r (unwrap_or o r)) (refl, refl) (λ apid app context may there. (refl, refl)) (λ apid app may there. (refl, refl))

same : {A : Type 0} (old new : A) → new ≡ old → Stepped (Some old) [] (Some new)
same old new is = inr (refl, ap Some (sym is))

request_level : (s : Setting) (slots : ℕ → Slot) (r : Registry) (request : Result Request RequestFault) (answer : Done) → Stepped (Some r.level) (default_by_request s slots r request answer) (Some (served s slots r request answer).level)
request_level s slots r (Ok (SetLogLevel apid ctid level)) answer = own_makes slots r (λ o. Stepped (Some r.level) [] (Some (unwrap_or o r).level)) (inr (refl, refl)) apid ctid level (λ own. inr (refl, refl))
request_level s slots r (Ok (SetAllLogLevel level)) answer = own_makes slots r (λ o. Stepped (Some r.level) [] (Some (unwrap_or o r).level)) (inr (refl, refl)) zero_id zero_id level (λ own. inr (refl, refl))
request_level s slots r (Ok (SetDefault level)) answer =
    default_makes slots r (λ o. Stepped (Some r.level) (if is_some o then level ∷ [] else []) (Some (unwrap_or o r).level)) (inr (refl, refl)) level (inl refl)
request_level s slots r (Ok Store) done.Yes = inr (refl, refl)
request_level s slots r (Ok Store) done.Failed = inr (refl, refl)
request_level s slots r (Ok Store) done.NoMemory = inr (refl, refl)
request_level s slots r (Ok Reset) done.Yes =
    reset_makes slots r (λ o. Stepped (Some r.level) (if is_some o then s.level ∷ [] else []) (Some (unwrap_or o r).level)) (inr (refl, refl)) s (inl refl)
request_level s slots r (Ok Reset) done.Failed = inr (refl, refl)
request_level s slots r (Ok Reset) done.NoMemory = inr (refl, refl)
request_level s slots r _ answer = inr (refl, refl)

request_stored : (s : Setting) (slots : ℕ → Slot) (r : Registry) (request : Result Request RequestFault) (answer : Done) → Stepped (Some r.stored) (stored_by_request s slots r request answer) (Some (served s slots r request answer).stored)
request_stored s slots r (Ok (SetLogLevel apid ctid level)) answer = own_makes slots r (λ o. Stepped (Some r.stored) [] (Some (unwrap_or o r).stored)) (inr (refl, refl)) apid ctid level (λ own. inr (refl, refl))
request_stored s slots r (Ok (SetAllLogLevel level)) answer = own_makes slots r (λ o. Stepped (Some r.stored) [] (Some (unwrap_or o r).stored)) (inr (refl, refl)) zero_id zero_id level (λ own. inr (refl, refl))
request_stored s slots r (Ok (SetDefault level)) answer = default_makes slots r (λ o. Stepped (Some r.stored) [] (Some (unwrap_or o r).stored)) (inr (refl, refl)) level (inr (refl, refl))
request_stored s slots r (Ok Store) done.Yes = inl refl
request_stored s slots r (Ok Store) done.Failed = inr (refl, refl)
request_stored s slots r (Ok Store) done.NoMemory = inr (refl, refl)
request_stored s slots r (Ok Reset) done.Yes =
    reset_makes slots r (λ o. Stepped (Some r.stored) (if is_some o then [] ∷ [] else []) (Some (unwrap_or o r).stored)) (inr (refl, refl)) s (inl refl)
request_stored s slots r (Ok Reset) done.Failed = inr (refl, refl)
request_stored s slots r (Ok Reset) done.NoMemory = inr (refl, refl)
request_stored s slots r _ answer = inr (refl, refl)

event_level : (s : Setting) (before : List Event) (e : Event) → Stepped (Some (registry_of s before).level) (default_at s before e) (Some (step s (slots_of s before) (registry_of s before) e).level)
event_level s before (event.User channel msg moment) =
    same (registry_of s before).level _ (message_keeps (registry_of s before) (applied (slots_of s before) (registry_of s before) channel msg) (applied-keeps (slots_of s before) (registry_of s before) channel msg)).0
event_level s before (event.Request client frame answer) = request_level s (slots_of s before) (registry_of s before) (asked frame) answer
event_level s before (event.Claim claim moment) = same (registry_of s before).level _ (claim_keeps (slots_of s before) (registry_of s before) claim).0
event_level s before _ = inr (refl, refl)

event_stored : (s : Setting) (before : List Event) (e : Event) → Stepped (Some (registry_of s before).stored) (stored_at s before e) (Some (step s (slots_of s before) (registry_of s before) e).stored)
event_stored s before (event.User channel msg moment) =
    same (registry_of s before).stored _ (message_keeps (registry_of s before) (applied (slots_of s before) (registry_of s before) channel msg) (applied-keeps (slots_of s before) (registry_of s before) channel msg)).1
event_stored s before (event.Request client frame answer) = request_stored s (slots_of s before) (registry_of s before) (asked frame) answer
event_stored s before (event.Claim claim moment) = same (registry_of s before).stored _ (claim_keeps (slots_of s before) (registry_of s before) claim).1
event_stored s before _ = inr (refl, refl)

pub default_given_last : (s : Setting) (events : List Event) → last_or (Some (start s).level) (along (default_at s) events) ≡ Some (registry_of s events).level
default_given_last s events = given_last s (λ r. Some r.level) (default_at s) (event_level s) events ((start s).level ∷ []) refl

pub stored_given_last : (s : Setting) (events : List Event) → last_or (Some s.stored.own) (along (stored_at s) events) ≡ Some (registry_of s events).stored
stored_given_last s events = given_last s (λ r. Some r.stored) (stored_at s) (event_stored s) events (s.stored.own ∷ []) refl

-- ---- an application, by its id

-- What is asked of the application that has the id: what its contexts do doesn't change it, and registering gives it.
module _ {A : Type 0} (f : App → A) (r : Registry) (a : List ℕ) (blind : (app : App) (contexts : List (List ℕ × Context)) → f (record app { contexts = contexts }) ≡ f app) where
  abbrev At : Option App → Option A
  At o = option_map f o

  abbrev Steps : List A → Registry → Type 0
  Steps given new = Stepped (At (lookup (bytes_eq a) r.apps)) given (At (lookup (bytes_eq a) new.apps))

  registers : (slots : ℕ → Slot) (channel : ℕ) (apid : List ℕ) (pid : ℕ) (text : List ℕ) (given : Bool → Option App → List A) → ((o : Option App) → given false o ≡ [])
      → ((app : App) → Stepped (Some (f app)) (given true (Some app)) (Some (f (record app { pid = pid; text = text })))) → Stepped None (given true None) (Some (f (new_app r channel pid text)))
      → IfOk (applied slots r channel (RegisterApp apid pid text)) (Steps (given (bytes_eq apid a) (lookup (bytes_eq a) r.apps)))
  registers slots channel apid pid text given other again begins =
      app_registers slots r channel _ apid pid text
      (λ app found of. at_set a apid r.apps (λ test o n. Stepped (At o) (given test o) (At n)) app (record app { pid = pid; text = text }) found (λ is. again app) others)
      (λ none room. at_new a apid r.apps (λ test o n. Stepped (At o) (given test o) (At n)) _ none (λ is. begins) others)
    where
      others : (o : Option App) → Stepped (At o) (given false o) (At o)
      others o = subst (λ given. Stepped (At o) given (At o)) (sym (other o)) (stays (At o))

  unregisters : (slots : ℕ → Slot) (channel : ℕ) (apid : List ℕ) (pid : ℕ) → IfOk (applied slots r channel (UnregisterApp apid pid)) (Steps [])
  unregisters slots channel apid pid =
      app_unregisters slots r channel (Steps []) apid pid (λ app found of. at_gone a apid r.apps (λ test o n. Stepped (At o) [] (At n)) app found (λ is. tt) (λ o. stays (At o)))

  changed : (apid : List ℕ) (app : App) (contexts : List (List ℕ × Context)) → lookup (bytes_eq apid) r.apps ≡ Some app → Steps [] (with_app r apid (record app { contexts = contexts }))
  changed apid app contexts found =
      at_set a apid r.apps (λ test o n. Stepped (At o) [] (At n)) app (record app { contexts = contexts }) found (λ is. same (f app) (f (record app { contexts = contexts })) (blind app contexts)) (λ o. stays (At o))

  context_message : (slots : ℕ → Slot) (channel : ℕ) (apid ctid : List ℕ) (position : ℕ) (level : Option ℕ) (trace : ℤ) (pid : ℕ) (text : List ℕ) → IfOk (applied slots r channel (RegisterContext apid ctid position level trace pid text)) (Steps [])
  context_message slots channel apid ctid position level trace pid text =
      context_registers slots r channel (Steps []) apid ctid position level trace pid text (λ app context found of there. changed apid app _ found) (λ app found of there room. changed apid app _ found)

  context_leaves : (slots : ℕ → Slot) (channel : ℕ) (apid ctid : List ℕ) (pid : ℕ) → IfOk (applied slots r channel (UnregisterContext apid ctid pid)) (Steps [])
  context_leaves slots channel apid ctid pid = context_unregisters slots r channel (Steps []) apid ctid pid (λ app context found of there. changed apid app _ found)

  claims : (slots : ℕ → Slot) (claim : Claimed) → Steps [] (unwrap_or (claimed slots r claim) r)
  claims slots claim =
      claim_makes slots r claim (λ o msgs. Steps [] (unwrap_or o r)) (stays (At (lookup (bytes_eq a) r.apps)))
      (λ apid app context may there. changed apid app _ may.found) (λ apid app may there. changed apid app _ may.found)

  requests : (s : Setting) (slots : ℕ → Slot) (request : Result Request RequestFault) (answer : Done) → Steps [] (served s slots r request answer)
  requests = served_makes (Steps []) r (stays (At (lookup (bytes_eq a) r.apps))) (λ level relevel. subst (λ o. Stepped (At (lookup (bytes_eq a) r.apps)) [] (At o)) (sym (lookup-releveled_app relevel a r.apps)) (by relevel (lookup (bytes_eq a) r.apps))) (λ new stored is. is) where
    by : (relevel : Relevel) (o : Option App) → Stepped (At o) [] (At (option_map (λ app. (releveled_app relevel (a, app)).1) o))
    by relevel None = tt
    by relevel (Some app) = same (f app) (f (releveled_app relevel (a, app)).1) (blind app (releveled_app relevel (a, app)).1.contexts)

-- ---- its number, and what it tells

number_steps : (slots : ℕ → Slot) (r : Registry) (a : List ℕ) (channel : ℕ) (msg : UserMsg) → IfOk (applied slots r channel msg) (λ new. Stepped (number_of r a) (number_by_message r a msg) (number_of new a))
number_steps slots r a channel (RegisterApp apid pid text) =
    registers (λ app. app.number) r a (λ app contexts. refl) slots channel apid pid text (λ test o. if test && is_none o then least_free (numbers r.apps) ∷ [] else []) (λ o. refl) (λ app. inr (refl, refl)) (inl refl)
number_steps slots r a channel (UnregisterApp apid pid) = unregisters (λ app. app.number) r a (λ app contexts. refl) slots channel apid pid
number_steps slots r a channel (RegisterContext apid ctid position level trace pid text) = context_message (λ app. app.number) r a (λ app contexts. refl) slots channel apid ctid position level trace pid text
number_steps slots r a channel (UnregisterContext apid ctid pid) = context_leaves (λ app. app.number) r a (λ app contexts. refl) slots channel apid ctid pid
number_steps slots r a channel (Log bytes) = stays (number_of r a)
number_steps slots r a channel (LogLevel level trace position) = stays (number_of r a)
number_steps slots r a channel (Injection position service body) = stays (number_of r a)
number_steps slots r a channel (Overflow counter apid) = stays (number_of r a)

abbrev told : App → AppTold
told app = record { pid = app.pid; text = app.text }

told_steps : (slots : ℕ → Slot) (r : Registry) (a : List ℕ) (channel : ℕ) (msg : UserMsg) → IfOk (applied slots r channel msg) (λ new. Stepped (told_of r a) (told_by_message a msg) (told_of new a))
told_steps slots r a channel (RegisterApp apid pid text) =
    registers told r a (λ app contexts. refl) slots channel apid pid text (λ test o. if test then record { pid = pid; text = text } ∷ [] else []) (λ o. refl) (λ app. inl refl) (inl refl)
told_steps slots r a channel (UnregisterApp apid pid) = unregisters told r a (λ app contexts. refl) slots channel apid pid
told_steps slots r a channel (RegisterContext apid ctid position level trace pid text) = context_message told r a (λ app contexts. refl) slots channel apid ctid position level trace pid text
told_steps slots r a channel (UnregisterContext apid ctid pid) = context_leaves told r a (λ app contexts. refl) slots channel apid ctid pid
told_steps slots r a channel (Log bytes) = stays (told_of r a)
told_steps slots r a channel (LogLevel level trace position) = stays (told_of r a)
told_steps slots r a channel (Injection position service body) = stays (told_of r a)
told_steps slots r a channel (Overflow counter apid) = stays (told_of r a)

event_number : (s : Setting) (a : List ℕ) (before : List Event) (e : Event) → Stepped (number_of (registry_of s before) a) (number_at s a before e) (number_of (step s (slots_of s before) (registry_of s before) e) a)
event_number s a before (event.User channel msg moment) =
    message_gives (λ r. number_of r a) (registry_of s before) (number_by_message (registry_of s before) a msg) (applied (slots_of s before) (registry_of s before) channel msg) (number_steps (slots_of s before) (registry_of s before) a channel msg)
event_number s a before (event.Request client frame answer) = requests (λ app. app.number) (registry_of s before) a (λ app contexts. refl) s (slots_of s before) (asked frame) answer
event_number s a before (event.Claim claim moment) = claims (λ app. app.number) (registry_of s before) a (λ app contexts. refl) (slots_of s before) claim
event_number s a before _ = stays (number_of (registry_of s before) a)

event_told : (s : Setting) (a : List ℕ) (before : List Event) (e : Event) → Stepped (told_of (registry_of s before) a) (told_at s a before e) (told_of (step s (slots_of s before) (registry_of s before) e) a)
event_told s a before (event.User channel msg moment) =
    message_gives (λ r. told_of r a) (registry_of s before) (told_by_message a msg) (applied (slots_of s before) (registry_of s before) channel msg) (told_steps (slots_of s before) (registry_of s before) a channel msg)
event_told s a before (event.Request client frame answer) = requests told (registry_of s before) a (λ app contexts. refl) s (slots_of s before) (asked frame) answer
event_told s a before (event.Claim claim moment) = claims told (registry_of s before) a (λ app contexts. refl) (slots_of s before) claim
event_told s a before _ = stays (told_of (registry_of s before) a)

pub number_given_last : (s : Setting) (events : List Event) (apid : List ℕ) → IfSome (number_of (registry_of s events) apid) (λ number. last_or None (along (number_at s apid) events) ≡ Some number)
number_given_last s events apid = given_last s (λ r. number_of r apid) (number_at s apid) (event_number s apid) events [] tt

pub told_given_last : (s : Setting) (events : List Event) (apid : List ℕ) → IfSome (told_of (registry_of s events) apid) (λ app. last_or None (along (told_at s apid) events) ≡ Some app)
told_given_last s events apid = given_last s (λ r. told_of r apid) (told_at s apid) (event_told s apid) events [] tt
