-- An application is there where it registered and did not leave since.
use Rattle.std.proofs.Common.{◌≡◌, ℕ, Bool, true, false, cond, List, map, Option, Some, None, refl, sym, ap, subst, ◌∙◌, IfOk}
use Rattle.std.specs.Prelude.{◌==◌, ◌&&◌, ◌||◌, if◌then◌else◌}
use Rattle.std.specs.Map.{lookup}
use Rattle.std.specs.Option.{option_and_then, option_map, is_some}
use Rattle.std.specs.Str.{bytes_eq}
use Rattle.dl_bytes.specs.declared.user.UserMsg.{UserMsg}
use Rattle.dl_bytes.specs.declared.user.UserMsg.TheVariants.{Log, RegisterApp, UnregisterApp, RegisterContext, UnregisterContext, LogLevel, Injection, Overflow}
use Rattle.dl_events.specs.declared.event.Event.{Event}
use Rattle.dl_model.specs.declared.registry.Slot.{Slot}
use Rattle.dl_model.specs.Journal.{accepted}
use Rattle.dl_model.specs.Registry.{App, Registry, Relevel, of_channel, with_app, applied, releveled_app}
use Rattle.dl_model.specs.Setting.{Setting}
use Rattle.dl_model.specs.Stays.{names_app, drops_app, registers, unregisters, is_app_there, stays}
use Rattle.dl_model.proofs.Changes.{app_registers, app_unregisters, context_registers, context_unregisters, claim_makes, served_makes}
use Rattle.dl_model.proofs.Presence.{at_set, at_new, at_gone, lookup-releveled_app}
use Rattle.dl_model.proofs.Staying.{AfterMessages, there-by_accepted}

-- an application that was found belongs to the channel
abbrev pub there : ℕ → Option App → Bool
there channel o = is_some (option_and_then (of_channel channel) o)

abbrev pub app_there : Registry → ℕ → List ℕ → Bool
app_there r channel apid = there channel (lookup (bytes_eq apid) r.apps)

-- who is there after a message of this channel: nobody who leaves by it, else who was there or comes by it
abbrev After : Bool → Bool → Bool → Bool → Bool → Type 0
After here drops names old new = new ≡ cond (here && drops) false (old || (here && names))

quiet : (here old : Bool) → After here false false old old
quiet true true = refl
quiet true false = refl
quiet false true = refl
quiet false false = refl

-- ---- one message

module _ (r : Registry) (c : ℕ) (a : List ℕ) (ch : ℕ) where
  abbrev AppStep : UserMsg → Registry → Type 0
  AppStep msg new = After (ch == c) (drops_app a msg) (names_app a msg) (app_there r c a) (app_there new c a)

  -- an application that stays on its channel, whether it is named or not
  kept : (old new : App) (names : Bool) → old.channel ≡ ch → new.channel ≡ old.channel → After (ch == c) false names (there c (Some old)) (there c (Some new))
  kept old new names of same =
      subst (λ n. After (ch == c) false names (there c (Some old)) (is_some (if n == c then Some new else None))) (sym same)
      (subst (λ n. After (n == c) false names (there c (Some old)) (is_some (if old.channel == c then Some new else None))) of (by (old.channel == c) names))
    where
      by : (b names : Bool) → After b false names (is_some (if b then Some old else None)) (is_some (if b then Some new else None))
      by true true = refl
      by true false = refl
      by false true = refl
      by false false = refl

  -- it has other contexts
  changed : (apid : List ℕ) (old new : App) → lookup (bytes_eq apid) r.apps ≡ Some old → old.channel ≡ ch → new.channel ≡ old.channel → After (ch == c) false false (app_there r c a) (app_there (with_app r apid new) c a)
  changed apid old new found of same =
      at_set a apid r.apps (λ test o n. After (ch == c) false false (there c o) (there c n)) old new found (λ is. kept old new false of same) (λ o. quiet (ch == c) (there c o))

  applied-step : (slots : ℕ → Slot) (msg : UserMsg) → IfOk (applied slots r ch msg) (AppStep msg)
  applied-step slots (RegisterApp apid pid text) =
      app_registers slots r ch (AppStep (RegisterApp apid pid text)) apid pid text
      (λ app found of. at_set a apid r.apps names app (record app { pid = pid; text = text }) found (λ is. kept app (record app { pid = pid; text = text }) true of refl) (λ o. quiet (ch == c) (there c o)))
      (λ found room. at_new a apid r.apps names _ found (λ is. comes (ch == c) _) (λ o. quiet (ch == c) (there c o)))
    where
      names : Bool → Option App → Option App → Type 0
      names test o n = After (ch == c) false test (there c o) (there c n)

      comes : (b : Bool) (new : App) → After b false true false (is_some (if b then Some new else None))
      comes true new = refl
      comes false new = refl
  applied-step slots (UnregisterApp apid pid) =
      app_unregisters slots r ch (AppStep (UnregisterApp apid pid)) apid pid
      (λ app found of. at_gone a apid r.apps (λ test o n. After (ch == c) test false (there c o) (there c n)) app found
      (λ is. subst (λ n. After (n == c) true false (there c (Some app)) false) of (goes (app.channel == c) app)) (λ o. quiet (ch == c) (there c o)))
    where
      goes : (b : Bool) (app : App) → After b true false (is_some (if b then Some app else None)) false
      goes true app = refl
      goes false app = refl
  applied-step slots (RegisterContext apid ctid position level trace pid text) =
      context_registers slots r ch (AppStep (RegisterContext apid ctid position level trace pid text)) apid ctid position level trace pid text
      (λ app context found of there. changed apid app _ found of refl) (λ app found of there room. changed apid app _ found of refl)
  applied-step slots (UnregisterContext apid ctid pid) =
      context_unregisters slots r ch (AppStep (UnregisterContext apid ctid pid)) apid ctid pid (λ app context found of there. changed apid app _ found of refl)
  applied-step slots (Log bytes) = quiet (ch == c) (app_there r c a)
  applied-step slots (LogLevel level trace position) = quiet (ch == c) (app_there r c a)
  applied-step slots (Injection position service body) = quiet (ch == c) (app_there r c a)
  applied-step slots (Overflow counter apid) = quiet (ch == c) (app_there r c a)

-- ---- a whole journal

same-levels : (relevel : Relevel) (c : ℕ) (a : List ℕ) (es : List (List ℕ × App)) → there c (lookup (bytes_eq a) (map (releveled_app relevel) es)) ≡ there c (lookup (bytes_eq a) es)
same-levels relevel c a es = ap (there c) (lookup-releveled_app relevel a es) ∙ by (lookup (bytes_eq a) es) where
  on : (b : Bool) (app : App) → is_some (if b then Some (releveled_app relevel (a, app)).1 else None) ≡ is_some (if b then Some app else None)
  on true app = refl
  on false app = refl

  by : (o : Option App) → there c (option_map (λ app. (releveled_app relevel (a, app)).1) o) ≡ there c o
  by None = refl
  by (Some app) = on (app.channel == c) app

pub app_there-by_accepted : (s : Setting) (events : List Event) (c : ℕ) (a : List ℕ) → is_app_there s events c a ≡ stays (registers c a) (unregisters c a) (accepted s events)
app_there-by_accepted s events c a =
    there-by_accepted s (λ r. app_there r c a) (registers c a) (unregisters c a) (record {
      messages = λ slots r ch msg. applied-step r c a ch slots msg;
      claims = λ slots r claim. claim_makes slots r claim (AfterMessages (λ q. app_there q c a) (registers c a) (unregisters c a) r) (refl, refl)
          (λ apid app context may there. changed r c a 0 apid app _ may.found may.own refl) (λ apid app may there. changed r c a 0 apid app _ may.found may.own refl);
      requests = λ s slots r request answer. served_makes (λ q. app_there q c a ≡ app_there r c a) r refl (λ level relevel. same-levels relevel c a r.apps) (λ new stored is. is) s slots request answer;
    }) refl events
