-- Replies, and what requests want, as a run has them and as the core has them.
use Rattle.std.proofs.Common.{◌≡◌, ℕ, Bool, List, Option, None, Result, Ok, refl, sym, ap, ◌∙◌}
use Rattle.std.specs.Prelude.{if◌then◌else◌}
use Rattle.std.specs.Option.{option_and_then, option_map}
use Rattle.std.specs.Result.{result_ok}
use Rattle.dl_bytes.specs.declared.outcome.Done.{Done}
use Rattle.dl_control.specs.Reply.{control_reply}
use Rattle.dl_control.specs.declared.request.Request.{Request}
use Rattle.dl_control.specs.declared.request.Request.TheVariants.{Store, Reset, Inject}
use Rattle.dl_control.specs.declared.request.RequestFault.{RequestFault}
use Rattle.dl_events.specs.declared.event.Event.{Event}
use Rattle.dl_model.specs.declared.context.Context.{Context}
use Rattle.dl_model.specs.declared.registry.Slot.{Slot}
use Rattle.dl_model.specs.Journal.{need_after, registry_of, reply_after}
use Rattle.dl_model.specs.Registry.{App, Registry, app_of, context_of, reset}
use Rattle.dl_model.specs.Reply.{apid_of, asked, ctid_of, injected, need_of, reply_frame_to, reply_to}
use Rattle.dl_model.specs.Setting.{Setting}
use Rattle.dl_registry.specs.Kept.{slots}
use Rattle.dl_services.specs.Wish.{needed, removes, sends, wanted}
use Rattle.dl_services.proofs.Requests.{wants-needs}
use Rattle.dl_core.specs.State.{Core}
use Rattle.dl_core.specs.Follows.{IsAfter, Run}
use Rattle.dl_core.specs.Serving.{reply_now, wanted_now}
use Rattle.dl_core.specs.Settings.{seen}
use Rattle.dl_core.proofs.Asked.{reply_alike}

-- ---- replies

pub reply_is : (run : Run) (events : List Event) (taken : ℕ → List ℕ) (core : Core) (frame : List ℕ) (answer : Done) → IsAfter run events taken core
    → reply_after run.setting events frame answer ≡ reply_now core frame answer
reply_is run events taken core frame answer is =
    let s = slots core.registry in
    let r = core.registry.registry in
    ap (λ (held : ℕ → Slot). reply_frame_to run.setting held (registry_of run.setting events) frame answer) (sym is.registry.slots)
    ∙ ap (λ (registry : Registry). reply_frame_to run.setting s registry frame answer) (sym is.registry.registry)
    ∙ ap (control_reply run.setting.ecu)
    (reply_alike run.setting (seen core) s r (apid_of frame) (ctid_of frame) (asked frame) answer (sym is.set_to.level) (sym is.set_to.injection) (sym is.set_to.software))
    ∙ ap (λ (ecu : List ℕ). control_reply ecu (reply_to (seen core) s r (apid_of frame) (ctid_of frame) (asked frame) answer)) (sym is.set_to.ecu)

-- ---- what a request wants

injected_alike : (one other : Setting) (registry : Registry) (apid ctid : List ℕ) → one.injection ≡ other.injection → injected one registry apid ctid ≡ injected other registry apid ctid
injected_alike one other registry apid ctid same =
    ap (λ (b : Bool). if b then option_and_then {U = App × Context} (λ app. option_map {U = App × Context} (λ context. (app, context)) (context_of app ctid)) (app_of registry 0 apid) else None) same

-- it sees the level and `InjectionMode` alone
wanted_alike : (one other : Setting) (slots : ℕ → Slot) (registry : Registry) (apid ctid : List ℕ) (request : Result Request RequestFault)
    → one.level ≡ other.level → one.injection ≡ other.injection → wanted one slots registry apid ctid request ≡ wanted other slots registry apid ctid request
wanted_alike one other slots registry apid ctid (Ok Store) level mode = refl
wanted_alike one other slots registry apid ctid (Ok Reset) level mode = ap (λ (n : ℕ). removes (result_ok (reset slots registry n))) level
wanted_alike one other slots registry apid ctid (Ok (Inject service body)) level mode =
    ap (λ (o : Option (App × Context)). sends service body o) (injected_alike one other registry apid ctid mode)
wanted_alike one other slots registry apid ctid _ level mode = refl

pub need_is : (run : Run) (events : List Event) (taken : ℕ → List ℕ) (core : Core) (frame : List ℕ) → IsAfter run events taken core
    → need_after run.setting events frame ≡ needed (wanted_now core frame)
need_is run events taken core frame is =
    let s = slots core.registry in
    let r = core.registry.registry in
    ap (λ (held : ℕ → Slot). need_of run.setting held (registry_of run.setting events) (apid_of frame) (ctid_of frame) (asked frame)) (sym is.registry.slots)
    ∙ ap (λ (registry : Registry). need_of run.setting s registry (apid_of frame) (ctid_of frame) (asked frame)) (sym is.registry.registry)
    ∙ wants-needs run.setting s r (apid_of frame) (ctid_of frame) (asked frame)
    ∙ ap needed (wanted_alike run.setting (seen core) s r (apid_of frame) (ctid_of frame) (asked frame) (sym is.set_to.level) (sym is.set_to.injection))
