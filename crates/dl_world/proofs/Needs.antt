-- What a request wants of the folder or of a queue is what a run of steps asks for it.
use Rattle.std.proofs.Common.{◌≡◌, ℕ, ◌<◌, Bool, true, false, cond, List, [], ◌∷◌, map, Option, Some, None, Result, Ok, refl, sym, ap, subst, ◌∙◌}
use Rattle.std.specs.Prelude.{if◌then◌else◌}
use Rattle.std.specs.List.{AllByRecursion}
use Rattle.std.specs.Map.{lookup}
use Rattle.std.specs.Option.{option_and_then, option_map}
use Rattle.std.specs.Result.{result_ok}
use Rattle.std.specs.Str.{bytes_eq}
use Rattle.dl_bytes.specs.Payload.{Arguments}
use Rattle.dl_bytes.specs.declared.item.Injection.{Injection}
use Rattle.dl_control.specs.declared.request.Request.{Request}
use Rattle.dl_control.specs.declared.request.Request.TheVariants.{Store, Reset, Inject}
use Rattle.dl_control.specs.declared.request.RequestFault.{RequestFault}
use Rattle.dl_events.specs.declared.event.Event.{Event}
use Rattle.dl_model.specs.declared.context.Context.{Context}
use Rattle.dl_model.specs.declared.registry.Slot.{Slot}
use Rattle.dl_model.specs.Journal.{registry_of, slots_of}
use Rattle.dl_model.specs.Registry.{App, Registry, IsInOrder, app_of, context_of, reset}
use Rattle.dl_model.specs.Reply.{apid_of, asked, ctid_of, injected, reset_requested}
use Rattle.dl_model.specs.Setting.{Setting}
use Rattle.dl_model.proofs.Order.{app_of_found, in_order-registry_of}
use Rattle.dl_services.specs.Wish.{wanted, removes, sends}
use Rattle.dl_services.specs.declared.wish.Want.TheVariants as want

-- ---- needs

injected_alike : (one other : Setting) (registry : Registry) (apid ctid : List ℕ) → one.injection ≡ other.injection → injected one registry apid ctid ≡ injected other registry apid ctid
injected_alike one other registry apid ctid same =
    ap (λ (b : Bool). if b then option_and_then {U = App × Context} (λ app. option_map {U = App × Context} (λ context. (app, context)) (context_of app ctid)) (app_of registry 0 apid) else None) same

-- under a setting that a request sees as the other one
wanted_alike : (setting other : Setting) (slots : ℕ → Slot) (registry : Registry) (apid ctid : List ℕ) (request : Result Request RequestFault) → setting.level ≡ other.level → setting.injection ≡ other.injection
    → wanted setting slots registry apid ctid request ≡ wanted other slots registry apid ctid request
wanted_alike setting other slots registry apid ctid (Ok Store) level mode = refl
wanted_alike setting other slots registry apid ctid (Ok Reset) level mode = ap (λ (n : ℕ). removes (result_ok (reset slots registry n))) level
wanted_alike setting other slots registry apid ctid (Ok (Inject service body)) level mode =
    ap (λ (o : Option (App × Context)). sends service body o) (injected_alike setting other registry apid ctid mode)
wanted_alike setting other slots registry apid ctid _ level mode = refl

-- what it wants of a run is what it wants of a core that stands for it
pub wanted_is : (setting other : Setting) (events : List Event) (slots : ℕ → Slot) (registry : Registry) (frame : List ℕ) → setting.level ≡ other.level → setting.injection ≡ other.injection
    → slots ≡ slots_of setting events → registry ≡ registry_of setting events
    → wanted setting (slots_of setting events) (registry_of setting events) (apid_of frame) (ctid_of frame) (asked frame) ≡ wanted other slots registry (apid_of frame) (ctid_of frame) (asked frame)
wanted_is setting other events slots registry frame level mode slots_are registry_is =
    wanted_alike setting other (slots_of setting events) (registry_of setting events) (apid_of frame) (ctid_of frame) (asked frame) level mode
    ∙ ap (λ (s : ℕ → Slot). wanted other s (registry_of setting events) (apid_of frame) (ctid_of frame) (asked frame)) (sym slots_are)
    ∙ ap (λ (r : Registry). wanted other slots r (apid_of frame) (ctid_of frame) (asked frame)) (sym registry_is)

-- ---- the application of an injection is one of 16

number_found : (test : List ℕ → Bool) (es : List (List ℕ × App)) (app : App) → lookup test es ≡ Some app → AllByRecursion (λ n. n < 16) (map (λ (e : List ℕ × App). e.1.number) es) → app.number < 16
number_found test [] app found all = absurd (cc found)
number_found test (e ∷ es) app found all = by (test e.0) found (λ is. number_found test es app is all.1) where
  by : (b : Bool) → cond b (Some e.1) (lookup test es) ≡ Some app → (lookup test es ≡ Some app → app.number < 16) → app.number < 16
  by true is rest = let same : e.1 ≡ app = cc is in subst (λ (x : App). x.number < 16) same all.0
  by false is rest = rest is

number_below : (registry : Registry) (apid : List ℕ) (app : App) → IsInOrder registry → app_of registry 0 apid ≡ Some app → app.number < 16
number_below registry apid app order found = number_found (bytes_eq apid) registry.apps app (app_of_found registry 0 apid app found) order.numbered.below

sent_below : (service : ℕ) (body : Arguments) (registry : Registry) (apid ctid : List ℕ) (app : ℕ) (injection : Injection) → IsInOrder registry
    → (mode : Bool) → sends service body (if mode then option_and_then {U = App × Context} (λ app. option_map {U = App × Context} (λ context. (app, context)) (context_of app ctid)) (app_of registry 0 apid) else None) ≡ want.Inject app injection
    → app < 16
sent_below service body registry apid ctid app injection order false is = absurd (cc is)
sent_below service body registry apid ctid app injection order true is = by_app (app_of registry 0 apid) refl is where
  by_context : (found : App) → found.number < 16 → (o : Option Context) → sends service body (option_map {U = App × Context} (λ context. (found, context)) o) ≡ want.Inject app injection → app < 16
  by_context found below None is = absurd (cc is)
  by_context found below (Some context) is = let same : found.number ≡ app = cc is in subst (λ (n : ℕ). n < 16) same below

  by_app : (o : Option App) → app_of registry 0 apid ≡ o
      → sends service body (option_and_then {U = App × Context} (λ app. option_map {U = App × Context} (λ context. (app, context)) (context_of app ctid)) o) ≡ want.Inject app injection → app < 16
  by_app None known is = absurd (cc is)
  by_app (Some found) known is = by_context found (number_below registry apid found order known) (context_of found ctid) is

nothing_removed : (o : Option Registry) (app : ℕ) (injection : Injection) → removes o ≡ want.Inject app injection → app < 16
nothing_removed None app injection is = absurd (cc is)
nothing_removed (Some new) app injection is = absurd (cc is)

wanted_below : (setting : Setting) (slots : ℕ → Slot) (registry : Registry) (apid ctid : List ℕ) (request : Result Request RequestFault) (app : ℕ) (injection : Injection) → IsInOrder registry
    → wanted setting slots registry apid ctid request ≡ want.Inject app injection → app < 16
wanted_below setting slots registry apid ctid (Ok Store) app injection order is = absurd (cc is)
wanted_below setting slots registry apid ctid (Ok Reset) app injection order is = nothing_removed (reset_requested setting slots registry) app injection is
wanted_below setting slots registry apid ctid (Ok (Inject service body)) app injection order is = sent_below service body registry apid ctid app injection order setting.injection is
wanted_below setting slots registry apid ctid _ app injection order is = absurd (cc is)

pub injection_below : (setting other : Setting) (events : List Event) (slots : ℕ → Slot) (registry : Registry) (apid ctid : List ℕ) (request : Result Request RequestFault) (app : ℕ) (injection : Injection)
    → registry ≡ registry_of setting events → wanted other slots registry apid ctid request ≡ want.Inject app injection → app < 16
injection_below setting other events slots registry apid ctid request app injection registry_is is =
    wanted_below other slots registry apid ctid request app injection (subst IsInOrder (sym registry_is) (in_order-registry_of setting events)) is
