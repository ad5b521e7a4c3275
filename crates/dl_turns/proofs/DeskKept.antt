-- The desk has each application of the registry, also after a request.
use Rattle.std.proofs.Common.{◌≡◌, ℕ, ◌<◌, Bool, true, false, cond, List, [], ◌∷◌, Option, Some, None, Result, Ok, refl, sym, subst}
use Rattle.std.specs.Prelude.{IfSome, if◌then◌else◌}
use Rattle.std.specs.List.{AllByRecursion}
use Rattle.std.specs.Map.{lookup}
use Rattle.std.specs.Option.{option_and_then, option_map}
use Rattle.std.specs.Str.{bytes_eq}
use Rattle.dl_bytes.specs.Payload.{Arguments}
use Rattle.dl_bytes.specs.declared.outcome.Done.{Done}
use Rattle.dl_control.specs.declared.request.Request.{Request}
use Rattle.dl_control.specs.declared.request.Request.TheVariants.{Store, Reset, Inject}
use Rattle.dl_control.specs.declared.request.RequestFault.{RequestFault}
use Rattle.dl_model.specs.Registry.{App, Registry, app_of, context_of, numbers}
use Rattle.dl_model.specs.Reply.{apid_of, asked, ctid_of, reset_requested, served}
use Rattle.dl_model.specs.Setting.{Setting}
use Rattle.dl_model.specs.declared.context.Context.{Context}
use Rattle.dl_model.specs.declared.registry.Slot.{Slot}
use Rattle.dl_model.proofs.Changes.{served_makes}
use Rattle.dl_model.proofs.Order.{app_of_found, releveled_numbers}
use Rattle.dl_desk.specs.Told.{ControlTold}
use Rattle.dl_registry.specs.Kept.{slots}
use Rattle.dl_services.specs.Wish.{removes, sends, wanted}
use Rattle.dl_services.specs.declared.wish.Want.{Want}
use Rattle.dl_core.specs.Serving.{injection_in, served_now, wanted_now}
use Rattle.dl_core.specs.Settings.{seen}
use Rattle.dl_core.specs.State.{Core}
use Rattle.dl_turns.specs.Events.{IsDeskOf}

-- ---- a request keeps the applications' numbers

abbrev KeepsNumbers : Registry → Registry → Type 0
KeepsNumbers old new = numbers new.apps ≡ numbers old.apps

served-keeps : (s : Setting) (slots : ℕ → Slot) (r : Registry) (request : Result Request RequestFault) (answer : Done) → KeepsNumbers r (served s slots r request answer)
served-keeps s slots r = served_makes (KeepsNumbers r) r refl (λ level relevel. releveled_numbers relevel r.apps) (λ new stored is. is) s slots

pub desk_served : (core : Core) (frame : List ℕ) (answer : Done) (told : ControlTold) → IsDeskOf core.registry told → IsDeskOf (served_now core frame answer) told
desk_served core frame answer told desk = record {
  numbered = subst (AllByRecursion (λ (n : ℕ). n < told.apps)) (sym (served-keeps (seen core) (slots core.registry) core.registry.registry (asked frame) answer)) desk.numbered;
  versions = desk.versions;
}

-- ---- an injection goes to one of the desk's applications

abbrev IsWithin : ℕ → Want → Type 0
IsWithin apps wants = IfSome (injection_in wants) (λ i. i.0 < apps)

module _ (apps : ℕ) where
  number_found : (test : List ℕ → Bool) (es : List (List ℕ × App)) (app : App) → lookup test es ≡ Some app → AllByRecursion (λ (n : ℕ). n < apps) (numbers es) → app.number < apps
  number_found test [] app found all = absurd (cc found)
  number_found test (e ∷ es) app found all = by (test e.0) found (λ is. number_found test es app is all.1) where
    by : (b : Bool) → cond b (Some e.1) (lookup test es) ≡ Some app → (lookup test es ≡ Some app → app.number < apps) → app.number < apps
    by true is rest = let same : e.1 ≡ app = cc is in subst (λ (x : App). x.number < apps) same all.0
    by false is rest = rest is

  module _ (registry : Registry) (all : AllByRecursion (λ (n : ℕ). n < apps) (numbers registry.apps)) where
    sent_within : (service : ℕ) (body : Arguments) (apid ctid : List ℕ) (mode : Bool)
        → IsWithin apps (sends service body (if mode then option_and_then {U = App × Context} (λ app. option_map {U = App × Context} (λ context. (app, context)) (context_of app ctid)) (app_of registry 0 apid) else None))
    sent_within service body apid ctid false = tt
    sent_within service body apid ctid true = by_app (app_of registry 0 apid) refl where
      by_context : (found : App) → found.number < apps → (o : Option Context) → IsWithin apps (sends service body (option_map {U = App × Context} (λ context. (found, context)) o))
      by_context found below None = tt
      by_context found below (Some context) = below

      by_app : (o : Option App) → app_of registry 0 apid ≡ o
          → IsWithin apps (sends service body (option_and_then {U = App × Context} (λ app. option_map {U = App × Context} (λ context. (app, context)) (context_of app ctid)) o))
      by_app None known = tt
      by_app (Some found) known = by_context found (number_found (bytes_eq apid) registry.apps found (app_of_found registry 0 apid found known) all) (context_of found ctid)

    nothing_removed : (o : Option Registry) → IsWithin apps (removes o)
    nothing_removed None = tt
    nothing_removed (Some new) = tt

    wanted_within : (setting : Setting) (slots : ℕ → Slot) (apid ctid : List ℕ) (request : Result Request RequestFault) → IsWithin apps (wanted setting slots registry apid ctid request)
    wanted_within setting slots apid ctid (Ok Store) = tt
    wanted_within setting slots apid ctid (Ok Reset) = nothing_removed (reset_requested setting slots registry)
    wanted_within setting slots apid ctid (Ok (Inject service body)) = sent_within service body apid ctid setting.injection
    wanted_within setting slots apid ctid _ = tt

pub injection_within : (core : Core) (frame : List ℕ) (wants : Want) (told : ControlTold) → wants ≡ wanted_now core frame → IsDeskOf core.registry told → IsWithin told.apps wants
injection_within core frame wants told is desk =
    subst (IsWithin told.apps) (sym is) (wanted_within told.apps core.registry.registry desk.numbered (seen core) (slots core.registry) (apid_of frame) (ctid_of frame) (asked frame))
