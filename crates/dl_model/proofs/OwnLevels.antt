-- A context's own level is what was given last.
use Rattle.std.proofs.Common.{◌≡◌, ℕ, inl, inr, Bool, true, false, List, [], ◌∷◌, ◌++◌, map, Option, Some, None, Result, Ok, refl, sym, ap, subst, ◌∙◌, append-nil, unwrap_or, IfOk, IfSome}
use Rattle.std.specs.Prelude.{◌&&◌, if◌then◌else◌}
use Rattle.std.specs.List.{flat_map, last_or}
use Rattle.std.specs.Map.{lookup}
use Rattle.std.specs.Option.{option_and_then, option_map, option_map_or, option_or, is_none}
use Rattle.std.specs.Result.{result_ok}
use Rattle.std.specs.Str.{bytes_eq}
use Rattle.dl_bytes.specs.Claim.{Claimed}
use Rattle.dl_bytes.specs.Id.{zero_id}
use Rattle.dl_bytes.specs.Level.{own_level_of}
use Rattle.dl_bytes.specs.declared.outcome.Done.{Done}
use Rattle.dl_bytes.specs.declared.outcome.Done.TheVariants as done
use Rattle.dl_bytes.specs.declared.user.UserMsg.{UserMsg}
use Rattle.dl_bytes.specs.declared.user.UserMsg.TheVariants.{Log, RegisterApp, UnregisterApp, RegisterContext, UnregisterContext, LogLevel, Injection, Overflow}
use Rattle.dl_control.specs.declared.request.Request.{Request}
use Rattle.dl_control.specs.declared.request.Request.TheVariants.{SetLogLevel, Store, Reset, SetDefault, SetAllLogLevel}
use Rattle.dl_control.specs.declared.request.RequestFault.{RequestFault}
use Rattle.dl_events.specs.declared.event.Event.{Event}
use Rattle.dl_events.specs.declared.event.Event.TheVariants as event
use Rattle.dl_model.specs.declared.context.Context.{Context}
use Rattle.dl_model.specs.declared.registry.Slot.{Slot}
use Rattle.dl_model.specs.Journal.{step, registry_of, slots_of}
use Rattle.dl_model.specs.Registry.{App, Registry, context_of, stored_level, with_app, with_context, with_new_context, applied, claimed, registration, registrations, matches, Relevel, set_matching, keep_own, no_own, own_set, nothing_stored, releveled_app, releveled}
use Rattle.dl_model.specs.Reply.{asked, served}
use Rattle.dl_model.specs.Setting.{Setting}
use Rattle.dl_model.specs.Stays.{own_at, given_by_message, given_where_set, none_given, given_by_request, given_at, levels_given}
use Rattle.dl_model.proofs.Changes.{app_registers, app_unregisters, context_registers, context_unregisters, claim_makes, default_makes, own_set_makes, reset_makes}
use Rattle.dl_model.proofs.LastGiven.{Stepped, stays, message_gives, given_last}
use Rattle.dl_model.proofs.Presence.{at_set, at_new, at_gone, own_releveled, lookup-releveled_app, lookup-releveled_context}

-- the own level of a context
abbrev own_in : Option Context → Option (Option ℕ)
own_in o = option_map (λ c. c.own) o

abbrev own_of_app : List ℕ → Option App → Option (Option ℕ)
own_of_app k o = option_and_then (λ app. own_in (context_of app k)) o

-- ---- one message

module _ (r : Registry) (a k : List ℕ) where
  -- nothing is given
  abbrev Quiet : Registry → Type 0
  Quiet new = Stepped (own_at r a k) [] (own_at new a k)

  abbrev quiet : Bool → Option App → Option App → Type 0
  quiet test o n = Stepped (own_of_app k o) [] (own_of_app k n)

  -- what a registration of the context gives that came out as `old`, where the ids are its ids
  abbrev gives : Option ℕ → Bool → Option (Option ℕ) → List (Option ℕ)
  gives level test old = if test && is_none old then option_or (stored_level r.stored a k) level ∷ [] else []

  -- a context that is there is told anew, and keeps its own level
  told-own : (apid ctid : List ℕ) (level : Option ℕ) (app : App) (context told : Context) → lookup (bytes_eq apid) r.apps ≡ Some app → context_of app ctid ≡ Some context → told.own ≡ context.own
      → Stepped (own_at r a k) (gives level (bytes_eq apid a && bytes_eq ctid k) (own_at r a k)) (own_at (with_app r apid (with_context app ctid told)) a k)
  told-own apid ctid level app context told found there keeps =
      at_set a apid r.apps (λ test o n. Stepped (own_of_app k o) (gives level (test && bytes_eq ctid k) (own_of_app k o)) (own_of_app k n)) app (with_context app ctid told) found
      (λ is. at_set k ctid app.contexts (λ test o n. Stepped (own_in o) (gives level test (own_in o)) (own_in n)) context told there (λ same. inr (refl, ap Some (sym keeps))) (λ o. stays (own_in o)))
      (λ o. stays (own_of_app k o))

  -- one comes, with the level that was stored for it or else the one that it asks for
  comes-own : (apid ctid : List ℕ) (level : Option ℕ) (app : App) (context : Context) → lookup (bytes_eq apid) r.apps ≡ Some app → context_of app ctid ≡ None
      → context.own ≡ option_or (stored_level r.stored apid ctid) level
      → Stepped (own_at r a k) (gives level (bytes_eq apid a && bytes_eq ctid k) (own_at r a k)) (own_at (with_app r apid (with_new_context app ctid context)) a k)
  comes-own apid ctid level app context found there gets =
      at_set a apid r.apps (λ test o n. Stepped (own_of_app k o) (gives level (test && bytes_eq ctid k) (own_of_app k o)) (own_of_app k n)) app (with_new_context app ctid context) found
      (λ is. at_new k ctid app.contexts (λ test o n. Stepped (own_in o) (gives level test (own_in o)) (own_in n)) context there
      (λ same. inl (ap (λ own. own ∷ []) (sym (gets ∙ ap (λ q. option_or (stored_level r.stored q ctid) level) is ∙ ap (λ q. option_or (stored_level r.stored a q) level) same)))) (λ o. stays (own_in o)))
      (λ o. stays (own_of_app k o))

  applied-own : (slots : ℕ → Slot) (channel : ℕ) (msg : UserMsg) → IfOk (applied slots r channel msg) (λ new. Stepped (own_at r a k) (given_by_message r a k msg) (own_at new a k))
  applied-own slots channel (RegisterApp apid pid text) =
      app_registers slots r channel Quiet apid pid text
      (λ app found of. at_set a apid r.apps quiet app (record app { pid = pid; text = text }) found (λ is. stays (own_in (context_of app k))) (λ o. stays (own_of_app k o)))
      (λ found room. at_new a apid r.apps quiet _ found (λ is. tt) (λ o. stays (own_of_app k o)))
  applied-own slots channel (UnregisterApp apid pid) =
      app_unregisters slots r channel Quiet apid pid (λ app found of. at_gone a apid r.apps quiet app found (λ is. tt) (λ o. stays (own_of_app k o)))
  applied-own slots channel (RegisterContext apid ctid position level trace pid text) =
      context_registers slots r channel _ apid ctid position level trace pid text
      (λ app context found of there. told-own apid ctid level app context (record context { position = position; text = text }) found there refl)
      (λ app found of there room. comes-own apid ctid level app _ found there refl)
  applied-own slots channel (UnregisterContext apid ctid pid) =
      context_unregisters slots r channel Quiet apid ctid pid
      (λ app context found of there. at_set a apid r.apps quiet app _ found
      (λ is. at_gone k ctid app.contexts (λ test o n. Stepped (own_in o) [] (own_in n)) context there (λ same. tt) (λ o. stays (own_in o))) (λ o. stays (own_of_app k o)))
  applied-own slots channel (Log bytes) = stays (own_at r a k)
  applied-own slots channel (LogLevel level trace position) = stays (own_at r a k)
  applied-own slots channel (Injection position service body) = stays (own_at r a k)
  applied-own slots channel (Overflow counter apid) = stays (own_at r a k)

  claimed-own : (slots : ℕ → Slot) (claim : Claimed) → Stepped (own_at r a k) (flat_map (given_by_message r a k) (registrations slots r claim)) (own_at (unwrap_or (claimed slots r claim) r) a k)
  claimed-own slots claim =
      claim_makes slots r claim (λ o msgs. Stepped (own_at r a k) (flat_map (given_by_message r a k) msgs) (own_at (unwrap_or o r) a k)) (stays (own_at r a k))
      (λ apid app context may there. one (given_by_message r a k (registration apid claim)) _ (told-own apid claim.ctid claim.level app context _ may.found there refl))
      (λ apid app may there. one (given_by_message r a k (registration apid claim)) _ (comes-own apid claim.ctid claim.level app _ may.found there refl))
    where
      one : (given : List (Option ℕ)) (new : Option (Option ℕ)) → Stepped (own_at r a k) given new → Stepped (own_at r a k) (given ++ []) new
      one given new stepped = subst (λ g. Stepped (own_at r a k) g new) (sym (append-nil given)) stepped

-- ---- one request

apps_releveled : (relevel : Relevel) (a k : List ℕ) (es : List (List ℕ × App))
    → own_of_app k (lookup (bytes_eq a) (map (releveled_app relevel) es)) ≡ option_map (relevel a k) (own_of_app k (lookup (bytes_eq a) es))
apps_releveled relevel a k es = ap (own_of_app k) (lookup-releveled_app relevel a es) ∙ by (lookup (bytes_eq a) es) where
  in_app : (o : Option Context) → own_in (option_map (own_releveled relevel a k) o) ≡ option_map (relevel a k) (own_in o)
  in_app None = refl
  in_app (Some c) = refl

  by : (o : Option App) → own_of_app k (option_map (λ app. (releveled_app relevel (a, app)).1) o) ≡ option_map (relevel a k) (own_of_app k o)
  by None = refl
  by (Some app) = ap own_in (lookup-releveled_context relevel a k app.contexts) ∙ in_app (context_of app k)

module _ (r : Registry) (a k : List ℕ) where
  abbrev Set : List (Option ℕ) → Option Registry → Type 0
  Set given o = Stepped (own_at r a k) given (own_at (unwrap_or o r) a k)

  -- what a level that was set gives a context: that level where it matches
  matched : (b : Bool) (own : Option ℕ) (old new : Option (Option ℕ)) → new ≡ option_map (λ o. if b then own else o) old → Stepped old (if b then own ∷ [] else []) new
  matched true own None new is = subst (Stepped None (own ∷ [])) (sym is) tt
  matched true own (Some o) new is = subst (Stepped (Some o) (own ∷ [])) (sym is) (inl refl)
  matched false own None new is = subst (Stepped None []) (sym is) tt
  matched false own (Some o) new is = subst (Stepped (Some o) []) (sym is) (inr (refl, refl))

  set_own : (slots : ℕ → Slot) (app context : List ℕ) (o : Option (Option ℕ))
      → Set (option_map_or (λ own. given_where_set a k app context own (result_ok (own_set slots r app context own))) o []) (option_and_then (λ own. result_ok (own_set slots r app context own)) o)
  set_own slots app context None = stays (own_at r a k)
  set_own slots app context (Some own) =
      own_set_makes slots r (λ o. Set (given_where_set a k app context own o) o) (stays (own_at r a k)) app context own
      (matched (matches app a && matches context k) own (own_at r a k) (own_at (releveled r.level (set_matching app context own) r) a k) (apps_releveled (set_matching app context own) a k r.apps))

  served-own : (s : Setting) (slots : ℕ → Slot) (request : Result Request RequestFault) (answer : Done)
      → Stepped (own_at r a k) (given_by_request s slots r a k request answer) (own_at (served s slots r request answer) a k)
  served-own s slots (Ok (SetLogLevel apid ctid level)) answer = set_own slots apid ctid (own_level_of level)
  served-own s slots (Ok (SetAllLogLevel level)) answer = set_own slots zero_id zero_id (own_level_of level)
  served-own s slots (Ok (SetDefault level)) answer =
      default_makes slots r (Set []) (stays (own_at r a k)) level (matched false None (own_at r a k) (own_at (releveled level keep_own r) a k) (apps_releveled keep_own a k r.apps))
  served-own s slots (Ok Store) done.Yes = stays (own_at r a k)
  served-own s slots (Ok Store) done.Failed = stays (own_at r a k)
  served-own s slots (Ok Store) done.NoMemory = stays (own_at r a k)
  served-own s slots (Ok Reset) done.Yes =
      reset_makes slots r (λ o. Set (none_given o) o) (stays (own_at r a k)) s (matched true None (own_at r a k) (own_at (nothing_stored (releveled s.level no_own r)) a k) (apps_releveled no_own a k r.apps))
  served-own s slots (Ok Reset) done.Failed = stays (own_at r a k)
  served-own s slots (Ok Reset) done.NoMemory = stays (own_at r a k)
  served-own s slots _ answer = stays (own_at r a k)

-- ---- a whole journal

event_own : (s : Setting) (a k : List ℕ) (before : List Event) (e : Event)
    → Stepped (own_at (registry_of s before) a k) (given_at s a k before e) (own_at (step s (slots_of s before) (registry_of s before) e) a k)
event_own s a k before (event.User channel msg moment) =
    message_gives (λ r. own_at r a k) (registry_of s before) (given_by_message (registry_of s before) a k msg) (applied (slots_of s before) (registry_of s before) channel msg)
    (applied-own (registry_of s before) a k (slots_of s before) channel msg)
event_own s a k before (event.Request client frame answer) = served-own (registry_of s before) a k s (slots_of s before) (asked frame) answer
event_own s a k before (event.Claim claim moment) = claimed-own (registry_of s before) a k (slots_of s before) claim
event_own s a k before _ = stays (own_at (registry_of s before) a k)

pub own_level-given_last : (s : Setting) (events : List Event) (apid ctid : List ℕ) → IfSome (own_at (registry_of s events) apid ctid) (λ own. last_or None (levels_given s events apid ctid) ≡ Some own)
own_level-given_last s events apid ctid = given_last s (λ r. own_at r apid ctid) (given_at s apid ctid) (event_own s apid ctid) events [] tt
