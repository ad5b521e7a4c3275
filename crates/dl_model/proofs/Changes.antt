-- What an event makes of the registry, by kinds of change. A property is shown for each kind; the checks are walked here, once.
use Rattle.std.proofs.Common.{◌≡◌, ℕ, ℤ, ◌<◌, Bool, true, false, not, List, [], ◌∷◌, ◌++◌, length, Option, Some, None, Result, Ok, Err, refl, sym, ap, subst, ◌∙◌, arith, leb-false, append-nil, append_assoc, unwrap_or, IfOk}
use Rattle.std.specs.Prelude.{nat_le, ◌==◌, ◌||◌, if◌then◌else◌, is_some}
use Rattle.std.specs.Map.{lookup}
use Rattle.std.specs.Option.{option_and_then, option_map_or, option_or}
use Rattle.std.specs.Result.{result_ok, result_unwrap_or}
use Rattle.std.specs.Str.{bytes_eq}
use Rattle.std.proofs.lemmas.Bool.{eq-eqb, eqb-true}
use Rattle.dl_lemmas.proofs.Options.{ifok_if, ifok_unless}
use Rattle.dl_bytes.specs.Claim.{Claimed}
use Rattle.dl_bytes.specs.Id.{zero_id}
use Rattle.dl_bytes.specs.Level.{own_level_of}
use Rattle.dl_bytes.specs.Limits.{last_version}
use Rattle.dl_bytes.specs.declared.conf.StoredLevel.{StoredLevel}
use Rattle.dl_bytes.specs.declared.outcome.Done.{Done}
use Rattle.dl_bytes.specs.declared.outcome.Done.TheVariants as done
use Rattle.dl_bytes.specs.declared.user.UserMsg.{UserMsg}
use Rattle.dl_bytes.specs.declared.user.UserMsg.TheVariants.{RegisterApp, UnregisterApp, RegisterContext, UnregisterContext}
use Rattle.dl_control.specs.declared.request.Request.{Request}
use Rattle.dl_control.specs.declared.request.Request.TheVariants.{SetLogLevel, SetAllLogLevel, SetDefault, Store, Reset}
use Rattle.dl_control.specs.declared.request.RequestFault.{RequestFault}
use Rattle.dl_events.specs.declared.event.Event.{Event}
use Rattle.dl_events.specs.declared.event.Event.TheVariants as event
use Rattle.dl_model.specs.declared.context.Context.{Context}
use Rattle.dl_model.specs.declared.registry.RegistryFault.{RegistryFault}
use Rattle.dl_model.specs.declared.registry.RegistryFault.TheVariants as fault
use Rattle.dl_model.specs.declared.registry.SetFault.{SetFault}
use Rattle.dl_model.specs.declared.registry.SetFault.TheVariants as set
use Rattle.dl_model.specs.declared.registry.Slot.{Slot}
use Rattle.dl_model.specs.Along.{along_from}
use Rattle.dl_model.specs.History.{slot_after}
use Rattle.dl_model.specs.Journal.{start, step, after, registry_of, slots_of}
use Rattle.dl_model.specs.Registry.{App, Registry, Relevel, apid_numbered, app_of, app_registered, app_unregistered, applied, claimed, context_claimed, context_of, context_registered, context_unregistered, default_set, for_app, is_free, keep_own, least_free, matching, no_own, nothing_stored, numbers, of_channel, own_set, places, registration, registrations, releveled, set_matching, slot_of, stored_level, wears, with_app, with_claim, with_context, with_new_app, with_new_context, without}
use Rattle.dl_model.specs.Reply.{asked, default_requested, own_requested, reset_requested, now_stored, served, where_done}
use Rattle.dl_model.specs.Setting.{Setting}
use Rattle.dl_model.proofs.OneMore.{registry-one}

-- an application that was found on a channel is the one of its id, and belongs to the channel
pub found_on : (channel : ℕ) (o : Option App) (app : App) → option_and_then (of_channel channel) o ≡ Some app → (o ≡ Some app) × (app.channel ≡ channel)
found_on channel None app is = absurd cc
found_on channel (Some other) app is = by (other.channel == channel) refl is where
  by : (b : Bool) → (other.channel == channel) ≡ b → (if b then Some other else None) ≡ Some app → (Some other ≡ Some app) × (app.channel ≡ channel)
  by true own here =
      let same : other ≡ app = cc here in
      (ap Some same, ap (λ (a : App). a.channel) (sym same) ∙ eqb-true other.channel channel own)
  by false own here = absurd cc

pub app_of_own : (r : Registry) (channel : ℕ) (apid : List ℕ) (app : App) → lookup (bytes_eq apid) r.apps ≡ Some app → app.channel ≡ channel → app_of r channel apid ≡ Some app
app_of_own r channel apid app found of = ap (option_and_then (of_channel channel)) found ∙ ap (λ b. if b then Some app else None) (eq-eqb app.channel channel of)

-- the application and the context that come
abbrev pub new_app : Registry → ℕ → ℕ → List ℕ → App
new_app r channel pid text = record { channel = channel; number = least_free (numbers r.apps); pid = pid; text = text; contexts = [] }

abbrev pub new_context : Registry → List ℕ → List ℕ → ℕ → Option ℕ → ℕ → List ℕ → Context
new_context r apid ctid place own position text = record { place = place; further = []; own = option_or (stored_level r.stored apid ctid) own; position = position; text = text }

-- ---- messages

module _ (slots : ℕ → Slot) (r : Registry) (channel : ℕ) (P : Registry → Type 0) where
  -- one that is there tells itself anew, or one comes
  pub app_registers : (apid : List ℕ) (pid : ℕ) (text : List ℕ)
      → ((app : App) → lookup (bytes_eq apid) r.apps ≡ Some app → app.channel ≡ channel → P (with_app r apid (record app { pid = pid; text = text })))
      → (lookup (bytes_eq apid) r.apps ≡ None → length r.apps < 16 → P (with_new_app r apid (new_app r channel pid text)))
      → IfOk (applied slots r channel (RegisterApp apid pid text)) P
  app_registers apid pid text told comes = ifok_if P (bytes_eq apid zero_id) fault.ZeroId _ (by (lookup (bytes_eq apid) r.apps) refl) where
    own : (app : App) (b : Bool) → lookup (bytes_eq apid) r.apps ≡ Some app → (app.channel == channel) ≡ b → IfOk (if b then Ok (with_app r apid (record app { pid = pid; text = text })) else Err fault.Taken) P
    own app true found is = told app found (eqb-true app.channel channel is)
    own app false found is = tt

    by : (o : Option App) → lookup (bytes_eq apid) r.apps ≡ o → IfOk (app_registered r channel apid pid text o) P
    by (Some app) found = own app (app.channel == channel) found refl
    by None found = ifok_unless P (nat_le 16 (length r.apps)) fault.AppsFull _ (λ room. comes found (omega (arith, leb-false 16 (length r.apps) room)))

  -- it goes
  pub app_unregisters : (apid : List ℕ) (pid : ℕ)
      → ((app : App) → lookup (bytes_eq apid) r.apps ≡ Some app → app.channel ≡ channel → P (record r { apps = without apid r.apps }))
      → IfOk (applied slots r channel (UnregisterApp apid pid)) P
  app_unregisters apid pid goes = by (app_of r channel apid) refl where
    by : (o : Option App) → app_of r channel apid ≡ o → IfOk (app_unregistered r apid o) P
    by None found = tt
    by (Some app) found = let own = found_on channel (lookup (bytes_eq apid) r.apps) app found in goes app own.0 own.1

  in_app : (apid : List ℕ) (next : App → Result Registry RegistryFault)
      → ((app : App) → lookup (bytes_eq apid) r.apps ≡ Some app → app.channel ≡ channel → IfOk (next app) P) → IfOk (for_app (app_of r channel apid) next) P
  in_app apid next each = by (app_of r channel apid) refl where
    by : (o : Option App) → app_of r channel apid ≡ o → IfOk (for_app o next) P
    by None found = tt
    by (Some app) found = let own = found_on channel (lookup (bytes_eq apid) r.apps) app found in each app own.0 own.1

  -- a context that is there tells itself anew, or one comes
  pub context_registers : (apid ctid : List ℕ) (position : ℕ) (own : Option ℕ) (trace : ℤ) (pid : ℕ) (text : List ℕ)
      → ((app : App) (context : Context) → lookup (bytes_eq apid) r.apps ≡ Some app → app.channel ≡ channel → context_of app ctid ≡ Some context
      → P (with_app r apid (with_context app ctid (record context { position = position; text = text }))))
      → ((app : App) → lookup (bytes_eq apid) r.apps ≡ Some app → app.channel ≡ channel → context_of app ctid ≡ None → length (places app.contexts) < 64
      → P (with_app r apid (with_new_context app ctid (new_context r apid ctid (least_free (places app.contexts)) own position text))))
      → IfOk (applied slots r channel (RegisterContext apid ctid position own trace pid text)) P
  context_registers apid ctid position own trace pid text told comes =
      ifok_if P (bytes_eq apid zero_id || bytes_eq ctid zero_id) fault.ZeroId _ (in_app apid _ (λ app found of. by app (context_of app ctid) found of refl)) where
        by : (app : App) (o : Option Context) → lookup (bytes_eq apid) r.apps ≡ Some app → app.channel ≡ channel → context_of app ctid ≡ o → IfOk (context_registered slots r apid ctid position own text app o) P
        by app (Some context) found of there = told app context found of there
        by app None found of there =
            ifok_unless P (nat_le 64 (length (places app.contexts))) fault.ContextsFull _ (λ room.
            ifok_if P ((slots (slot_of app.number (least_free (places app.contexts)))).version == last_version) fault.Worn _
            (comes app found of there (omega (arith, leb-false 64 (length (places app.contexts)) room))))

  -- it goes
  pub context_unregisters : (apid ctid : List ℕ) (pid : ℕ)
      → ((app : App) (context : Context) → lookup (bytes_eq apid) r.apps ≡ Some app → app.channel ≡ channel → context_of app ctid ≡ Some context → P (with_app r apid (record app { contexts = without ctid app.contexts })))
      → IfOk (applied slots r channel (UnregisterContext apid ctid pid)) P
  context_unregisters apid ctid pid goes = in_app apid _ (λ app found of. by app (context_of app ctid) found of refl) where
    by : (app : App) (o : Option Context) → lookup (bytes_eq apid) r.apps ≡ Some app → app.channel ≡ channel → context_of app ctid ≡ o → IfOk (context_unregistered r apid ctid app o) P
    by app None found of there = tt
    by app (Some context) found of there = goes app context found of there

-- ---- claims

-- a claim that changes something: its application, which is there, has the place free
pub record Claims (r : Registry) (claim : Claimed) (apid : List ℕ) (app : App) : Type 0 where
  pub numbered : apid_numbered r claim.app ≡ Some apid
  pub found : lookup (bytes_eq apid) r.apps ≡ Some app
  pub own : app.channel ≡ 0
  pub free : not (is_free claim.place app.contexts) ≡ false

-- it changes nothing; or a context that is there has a place more, or one comes, and the claim is its registration
pub claim_makes : (slots : ℕ → Slot) (r : Registry) (claim : Claimed) (P : Option Registry → List UserMsg → Type 0) → P None []
    → ((apid : List ℕ) (app : App) (context : Context) → Claims r claim apid app → context_of app claim.ctid ≡ Some context
    → P (Some (with_app r apid (with_context app claim.ctid (record context { further = context.further ++ claim.place ∷ [] })))) (registration apid claim ∷ []))
    → ((apid : List ℕ) (app : App) → Claims r claim apid app → context_of app claim.ctid ≡ None
    → P (Some (with_app r apid (with_new_context app claim.ctid (new_context r apid claim.ctid claim.place claim.level 0 claim.text)))) (registration apid claim ∷ []))
    → P (claimed slots r claim) (registrations slots r claim)
claim_makes slots r claim P nothing placed comes = by (apid_numbered r claim.app) refl where
  Q : List ℕ → Option Registry → Type 0
  Q apid o = P o (if is_some o then registration apid claim ∷ [] else [])

  unless : (apid : List ℕ) (b : Bool) (o : Option Registry) → (b ≡ false → Q apid o) → Q apid (if b then None else o)
  unless apid true o each = nothing
  unless apid false o each = each refl

  kind : (apid : List ℕ) (app : App) (o : Option Context) → Claims r claim apid app → context_of app claim.ctid ≡ o → Q apid (Some (with_app r apid (with_claim r.stored apid claim app o)))
  kind apid app None may there = comes apid app may there
  kind apid app (Some context) may there = placed apid app context may there

  at : (apid : List ℕ) (o : Option App) → apid_numbered r claim.app ≡ Some apid → app_of r 0 apid ≡ o → Q apid (option_and_then (context_claimed slots r apid claim) o)
  at apid None numbered found = nothing
  at apid (Some app) numbered found =
      let own = found_on 0 (lookup (bytes_eq apid) r.apps) app found in
      unless apid (not (is_free claim.place app.contexts)) _ (λ free.
      unless apid ((slots (slot_of app.number claim.place)).version == last_version) _ (λ fresh.
      kind apid app (context_of app claim.ctid) (record { numbered = numbered; found = own.0; own = own.1; free = free }) refl))

  leaves : Option (List ℕ) → Option Registry
  leaves o = option_and_then (λ apid. option_and_then (context_claimed slots r apid claim) (app_of r 0 apid)) o

  by : (o : Option (List ℕ)) → apid_numbered r claim.app ≡ o → P (leaves o) (if is_some (leaves o) then option_map_or (λ apid. registration apid claim ∷ []) o [] else [])
  by None numbered = nothing
  by (Some apid) numbered = at apid (app_of r 0 apid) numbered refl

-- ---- requests

-- nothing comes of a request that is refused, and else other levels
module _ (slots : ℕ → Slot) (r : Registry) (P : Option Registry → Type 0) (nothing : P None) where
  unless_err : (b : Bool) (e : SetFault) (result : Result Registry SetFault) → P (result_ok result) → P (result_ok (if b then Err e else result))
  unless_err true e result here = nothing
  unless_err false e result here = here

  pub own_set_makes : (apid ctid : List ℕ) (own : Option ℕ) → P (Some (releveled r.level (set_matching apid ctid own) r)) → P (result_ok (own_set slots r apid ctid own))
  own_set_makes apid ctid own sets = unless_err (length (matching r apid ctid) == 0) set.Nobody _ (unless_err (wears slots r r.level (set_matching apid ctid own)) set.Worn _ sets)

  pub own_makes : (apid ctid : List ℕ) (level : ℤ) → ((own : Option ℕ) → P (Some (releveled r.level (set_matching apid ctid own) r))) → P (own_requested slots r apid ctid level)
  own_makes apid ctid level sets = by (own_level_of level) where
    by : (o : Option (Option ℕ)) → P (option_and_then (λ own. result_ok (own_set slots r apid ctid own)) o)
    by None = nothing
    by (Some own) = own_set_makes apid ctid own (sets own)

  pub default_makes : (level : ℕ) → P (Some (releveled level keep_own r)) → P (default_requested slots r level)
  default_makes level sets = by (nat_le level 6) where
    by : (b : Bool) → P (if b then result_ok (default_set slots r level) else None)
    by true = unless_err (wears slots r level keep_own) set.Worn _ sets
    by false = nothing

  pub reset_makes : (s : Setting) → P (Some (nothing_stored (releveled s.level no_own r))) → P (reset_requested s slots r)
  reset_makes s sets = unless_err (wears slots r s.level no_own) set.Worn _ sets

where_asked : (P : Registry → Type 0) (answer : Done) (new old : Registry) → P new → P old → P (where_done answer new old)
where_asked P done.Yes new old here was = here
where_asked P done.Failed new old here was = was
where_asked P done.NoMemory new old here was = was

-- what other levels leave, and what is stored, every request leaves
pub served_makes : (P : Registry → Type 0) (r : Registry) → P r → ((level : ℕ) (relevel : Relevel) → P (releveled level relevel r)) → ((new : Registry) (stored : List StoredLevel) → P new → P (record new { stored = stored }))
    → (s : Setting) (slots : ℕ → Slot) (request : Result Request RequestFault) (answer : Done) → P (served s slots r request answer)
served_makes P r is levels stores s slots (Ok (SetLogLevel apid ctid level)) answer = own_makes slots r (λ o. P (unwrap_or o r)) is apid ctid level (λ own. levels r.level _)
served_makes P r is levels stores s slots (Ok (SetAllLogLevel level)) answer = own_makes slots r (λ o. P (unwrap_or o r)) is zero_id zero_id level (λ own. levels r.level _)
served_makes P r is levels stores s slots (Ok (SetDefault level)) answer = default_makes slots r (λ o. P (unwrap_or o r)) is level (levels level keep_own)
served_makes P r is levels stores s slots (Ok Store) answer = where_asked P answer (now_stored r) r (stores r _ is) is
served_makes P r is levels stores s slots (Ok Reset) answer = where_asked P answer _ r (reset_makes slots r (λ o. P (unwrap_or o r)) is s (stores _ [] (levels s.level no_own))) is
served_makes P r is levels stores s slots _ answer = is

-- ---- a whole journal

-- what holds at the beginning, and is left by each event
pub registry_keeps : (P : Registry → Type 0) (s : Setting) → ((slots : ℕ → Slot) (r : Registry) (e : Event) → P r → P (step s slots r e)) → P (start s) → (events : List Event) → P (registry_of s events)
registry_keeps P s each first events = from [] (start s) events first where
  from : (before : List Event) (r : Registry) (events : List Event) → P r → P (after s before r events)
  from before r [] is = is
  from before r (e ∷ events) is = from (before ++ e ∷ []) (step s (slot_after s.first before) r e) events (each (slot_after s.first before) r e is)

-- the same with what the events give along
pub along_keeps : {A : Type 0} (s : Setting) (f : List Event → Event → List A) (P : Registry → List A → Type 0)
    → ((before : List Event) (given : List A) (e : Event) → P (registry_of s before) given → P (step s (slots_of s before) (registry_of s before) e) (given ++ f before e))
    → P (start s) [] → (events : List Event) → P (registry_of s events) (along_from f [] events)
along_keeps s f P each first events = from [] events [] first where
  from : (before events : List Event) (given : List _) → P (registry_of s before) given → P (registry_of s (before ++ events)) (given ++ along_from f before events)
  from before [] given is = subst (λ b. P (registry_of s b) (given ++ [])) (sym (append-nil before)) (subst (P (registry_of s before)) (sym (append-nil given)) is)
  from before (e ∷ events) given is =
      let one : P (registry_of s (before ++ e ∷ [])) (given ++ f before e) = subst (λ r. P r (given ++ f before e)) (sym (registry-one s before e)) (each before given e is) in
      subst (λ b. P (registry_of s b) (given ++ (f before e ++ along_from f (before ++ e ∷ []) events))) (append_assoc before (e ∷ []) events)
      (subst (P (registry_of s ((before ++ e ∷ []) ++ events))) (append_assoc given (f before e) (along_from f (before ++ e ∷ []) events)) (from (before ++ e ∷ []) events (given ++ f before e) one))

-- an event changes the registry by a message, a request or a claim
pub step_keeps : (P : Registry → Type 0) (s : Setting) (slots : ℕ → Slot) (r : Registry) → ((channel : ℕ) (msg : UserMsg) → IfOk (applied slots r channel msg) P)
    → ((request : Result Request RequestFault) (answer : Done) → P (served s slots r request answer)) → ((claim : Claimed) → P (unwrap_or (claimed slots r claim) r)) → (e : Event) → P r → P (step s slots r e)
step_keeps P s slots r messages requests claims (event.User channel msg moment) is = by (applied slots r channel msg) (messages channel msg) where
  by : (result : Result Registry RegistryFault) → IfOk result P → P (result_unwrap_or result r)
  by (Ok new) here = here
  by (Err fault) here = is
step_keeps P s slots r messages requests claims (event.Request client frame answer) is = requests (asked frame) answer
step_keeps P s slots r messages requests claims (event.Claim claim moment) is = claims claim
step_keeps P s slots r messages requests claims _ is = is
