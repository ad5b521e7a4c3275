-- A context is there where it registered, and neither it nor its application left since.
use Rattle.std.proofs.Common.{◌≡◌, ℕ, Bool, true, false, cond, List, [], map, Option, Some, None, refl, sym, ap, subst, ◌∙◌, IfOk}
use Rattle.std.specs.Prelude.{◌==◌, ◌&&◌, ◌||◌, if◌then◌else◌}
use Rattle.std.specs.Map.{lookup}
use Rattle.std.specs.Option.{option_and_then, option_map, is_some}
use Rattle.std.specs.Str.{bytes_eq}
use Rattle.dl_bytes.specs.declared.user.UserMsg.{UserMsg}
use Rattle.dl_bytes.specs.declared.user.UserMsg.TheVariants.{Log, RegisterApp, UnregisterApp, RegisterContext, UnregisterContext, LogLevel, Injection, Overflow}
use Rattle.dl_events.specs.declared.event.Event.{Event}
use Rattle.dl_model.specs.declared.context.Context.{Context}
use Rattle.dl_model.specs.declared.registry.Slot.{Slot}
use Rattle.dl_model.specs.Journal.{accepted}
use Rattle.dl_model.specs.Registry.{App, Registry, Relevel, of_channel, context_of, with_app, with_context, with_new_context, applied, releveled_app}
use Rattle.dl_model.specs.Setting.{Setting}
use Rattle.dl_model.specs.Stays.{drops_app, stays, names_context, drops_context, registers_context, ends_context, is_context_there}
use Rattle.dl_model.proofs.Changes.{app_registers, app_unregisters, context_registers, context_unregisters, claim_makes, served_makes}
use Rattle.dl_model.proofs.Presence.{at_set, at_new, at_gone, own_releveled, lookup-releveled_app, lookup-releveled_context}
use Rattle.dl_model.proofs.Staying.{AfterMessages, there-by_accepted}

-- a context of an application that belongs to the channel
abbrev pub ctx_there : ℕ → List ℕ → Option App → Bool
ctx_there channel ctid o = is_some (option_and_then (λ app. context_of app ctid) (option_and_then (of_channel channel) o))

abbrev pub context_there : Registry → ℕ → List ℕ → List ℕ → Bool
context_there r c a k = ctx_there c k (lookup (bytes_eq a) r.apps)

-- the same of an application that is there, by whether it belongs to the channel
abbrev in_app : Bool → List ℕ → App → Bool
in_app here k app = is_some (option_and_then (λ app. context_of app k) (if here then Some app else None))

-- who is there after a step of this channel that drops the application, names the context or drops it, or none of these
abbrev After : Bool → Bool → Bool → Bool → Bool → Bool → Type 0
After here dropped named gone old new = new ≡ cond ((here && dropped) || (here && gone)) false (old || (here && named))

quiet : (here old : Bool) → After here false false false old old
quiet true true = refl
quiet true false = refl
quiet false true = refl
quiet false false = refl

-- ---- one message

module _ (r : Registry) (c : ℕ) (a k : List ℕ) (ch : ℕ) where
  abbrev ContextStep : UserMsg → Registry → Type 0
  ContextStep msg new = After (ch == c) (drops_app a msg) (names_context a k msg) (drops_context a k msg) (context_there r c a k) (context_there new c a k)

  -- an application of this channel whose contexts change: what its change names or drops counts where it is the one of the id
  changed : (apid ctid : List ℕ) (named gone : Bool → Bool) (old new : App) → lookup (bytes_eq apid) r.apps ≡ Some old → old.channel ≡ ch → new.channel ≡ old.channel
      → After true false (named true) (gone true) (is_some (context_of old k)) (is_some (context_of new k)) → named false ≡ false → gone false ≡ false
      → After (ch == c) false (named (bytes_eq apid a)) (gone (bytes_eq apid a)) (context_there r c a k) (context_there (with_app r apid new) c a k)
  changed apid ctid named gone old new found of same here unnamed ungone =
      at_set a apid r.apps (λ test o n. After (ch == c) false (named test) (gone test) (ctx_there c k o) (ctx_there c k n)) old new found
      (λ is. subst (λ n. After (ch == c) false (named true) (gone true) (ctx_there c k (Some old)) (in_app (n == c) k new)) (sym same)
      (subst (λ n. After (n == c) false (named true) (gone true) (ctx_there c k (Some old)) (in_app (old.channel == c) k new)) of (by (old.channel == c))))
      (λ o. subst (λ b. After (ch == c) false b (gone false) (ctx_there c k o) (ctx_there c k o)) (sym unnamed)
      (subst (λ b. After (ch == c) false false b (ctx_there c k o) (ctx_there c k o)) (sym ungone) (quiet (ch == c) (ctx_there c k o))))
    where
      by : (b : Bool) → After b false (named true) (gone true) (in_app b k old) (in_app b k new)
      by true = here
      by false = refl

  told : (apid ctid : List ℕ) (app : App) (context new : Context) → lookup (bytes_eq apid) r.apps ≡ Some app → app.channel ≡ ch → context_of app ctid ≡ Some context
      → After (ch == c) false (bytes_eq apid a && bytes_eq ctid k) false (context_there r c a k) (context_there (with_app r apid (with_context app ctid new)) c a k)
  told apid ctid app context new found of there =
      changed apid ctid (λ test. test && bytes_eq ctid k) (λ test. false) app (with_context app ctid new) found of refl
      (at_set k ctid app.contexts (λ test o n. After true false test false (is_some o) (is_some n)) context new there (λ is. refl) (λ o. quiet true (is_some o))) refl refl

  comes : (apid ctid : List ℕ) (app : App) (new : Context) → lookup (bytes_eq apid) r.apps ≡ Some app → app.channel ≡ ch → context_of app ctid ≡ None
      → After (ch == c) false (bytes_eq apid a && bytes_eq ctid k) false (context_there r c a k) (context_there (with_app r apid (with_new_context app ctid new)) c a k)
  comes apid ctid app new found of there =
      changed apid ctid (λ test. test && bytes_eq ctid k) (λ test. false) app (with_new_context app ctid new) found of refl
      (at_new k ctid app.contexts (λ test o n. After true false test false (is_some o) (is_some n)) new there (λ is. refl) (λ o. quiet true (is_some o))) refl refl

  applied-ctx : (slots : ℕ → Slot) (msg : UserMsg) → IfOk (applied slots r ch msg) (ContextStep msg)
  applied-ctx slots (RegisterApp apid pid text) =
      app_registers slots r ch (ContextStep (RegisterApp apid pid text)) apid pid text
      (λ app found of. changed apid [] (λ test. false) (λ test. false) app (record app { pid = pid; text = text }) found of refl (quiet true (is_some (context_of app k))) refl refl)
      (λ found room. at_new a apid r.apps (λ test o n. After (ch == c) false false false (ctx_there c k o) (ctx_there c k n)) _ found (λ is. empty (ch == c) _ refl) (λ o. quiet (ch == c) (ctx_there c k o)))
    where
      empty : (b : Bool) (new : App) → new.contexts ≡ [] → After b false false false false (in_app b k new)
      empty true new none = ap (λ es. is_some (lookup (bytes_eq k) es)) none
      empty false new none = refl
  applied-ctx slots (UnregisterApp apid pid) =
      app_unregisters slots r ch (ContextStep (UnregisterApp apid pid)) apid pid
      (λ app found of. at_gone a apid r.apps (λ test o n. After (ch == c) test false false (ctx_there c k o) (ctx_there c k n)) app found
      (λ is. subst (λ n. After (n == c) true false false (ctx_there c k (Some app)) false) of (goes (app.channel == c) app)) (λ o. quiet (ch == c) (ctx_there c k o)))
    where
      goes : (b : Bool) (app : App) → After b true false false (in_app b k app) false
      goes true app = refl
      goes false app = refl
  applied-ctx slots (RegisterContext apid ctid position level trace pid text) =
      context_registers slots r ch (ContextStep (RegisterContext apid ctid position level trace pid text)) apid ctid position level trace pid text
      (λ app context found of there. told apid ctid app context _ found of there) (λ app found of there room. comes apid ctid app _ found of there)
  applied-ctx slots (UnregisterContext apid ctid pid) =
      context_unregisters slots r ch (ContextStep (UnregisterContext apid ctid pid)) apid ctid pid
      (λ app context found of there. changed apid ctid (λ test. false) (λ test. test && bytes_eq ctid k) app _ found of refl
      (at_gone k ctid app.contexts (λ test o n. After true false false test (is_some o) (is_some n)) context there (λ is. refl) (λ o. quiet true (is_some o))) refl refl)
  applied-ctx slots (Log bytes) = quiet (ch == c) (context_there r c a k)
  applied-ctx slots (LogLevel level trace position) = quiet (ch == c) (context_there r c a k)
  applied-ctx slots (Injection position service body) = quiet (ch == c) (context_there r c a k)
  applied-ctx slots (Overflow counter apid) = quiet (ch == c) (context_there r c a k)

-- ---- a whole journal

same-levels : (relevel : Relevel) (c : ℕ) (a k : List ℕ) (es : List (List ℕ × App)) → ctx_there c k (lookup (bytes_eq a) (map (releveled_app relevel) es)) ≡ ctx_there c k (lookup (bytes_eq a) es)
same-levels relevel c a k es = ap (ctx_there c k) (lookup-releveled_app relevel a es) ∙ by (lookup (bytes_eq a) es) where
  still : (o : Option Context) → is_some (option_map (own_releveled relevel a k) o) ≡ is_some o
  still None = refl
  still (Some context) = refl

  on : (b : Bool) (app : App) → in_app b k (releveled_app relevel (a, app)).1 ≡ in_app b k app
  on true app = ap is_some (lookup-releveled_context relevel a k app.contexts) ∙ still (context_of app k)
  on false app = refl

  by : (o : Option App) → ctx_there c k (option_map (λ app. (releveled_app relevel (a, app)).1) o) ≡ ctx_there c k o
  by None = refl
  by (Some app) = on (app.channel == c) app

pub context_there-by_accepted : (s : Setting) (events : List Event) (c : ℕ) (a k : List ℕ) → is_context_there s events c a k ≡ stays (registers_context c a k) (ends_context c a k) (accepted s events)
context_there-by_accepted s events c a k =
    there-by_accepted s (λ r. context_there r c a k) (registers_context c a k) (ends_context c a k) (record {
      messages = λ slots r ch msg. applied-ctx r c a k ch slots msg;
      claims = λ slots r claim. claim_makes slots r claim (AfterMessages (λ q. context_there q c a k) (registers_context c a k) (ends_context c a k) r) (refl, refl)
          (λ apid app context may there. told r c a k 0 apid claim.ctid app context _ may.found may.own there) (λ apid app may there. comes r c a k 0 apid claim.ctid app _ may.found may.own there);
      requests = λ s slots r request answer. served_makes (λ q. context_there q c a k ≡ context_there r c a k) r refl (λ level relevel. same-levels relevel c a k r.apps) (λ new stored is. is) s slots request answer;
    }) refl events
