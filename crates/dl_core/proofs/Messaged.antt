-- The core after a user message.
use Rattle.std.proofs.Common.{◌≡◌, ℕ, false, List, [], ◌∷◌, ◌++◌, map, Option, Result, Ok, Err, OnOk, refl, sym, ap, subst, ◌∙◌}
use Rattle.std.specs.Result.{result_unwrap_or}
use Rattle.dl_bytes.specs.declared.moment.Moment.{Moment}
use Rattle.dl_bytes.specs.declared.user.UserMsg.{UserMsg}
use Rattle.dl_bytes.specs.declared.user.UserMsg.TheVariants as user
use Rattle.dl_events.specs.declared.event.Event.{Event}
use Rattle.dl_events.specs.declared.event.Event.TheVariants as event
use Rattle.dl_outside.specs.Told.{FolderTold}
use Rattle.dl_model.specs.declared.registry.RegistryFault.{RegistryFault}
use Rattle.dl_model.specs.declared.registry.RegistryFault.TheVariants as fault
use Rattle.dl_model.specs.Setting.{Setting}
use Rattle.dl_model.specs.Registry.{Registry, applied}
use Rattle.dl_model.specs.Frames.{stored, stored_of, user_frames}
use Rattle.dl_registry.specs.Kept as registry
use Rattle.dl_registry.specs.Kept.{Kept, Applies, slots}
use Rattle.dl_registry.proofs.Following.{after_event}
use Rattle.dl_hub.specs.State.{Hub, IsSameHub}
use Rattle.dl_trace.specs.State.{Trace}
use Rattle.dl_core.specs.State.{Core}
use Rattle.dl_core.specs.Admission.{Admits, has_frames}
use Rattle.dl_core.specs.Noting.{AdmitsFrames, TakesIn}
use Rattle.dl_core.proofs.Admitted.{takes-none}
use Rattle.dl_core.specs.Follows.{source_of, stored_by, Adds}
use Rattle.dl_trace.specs.Written.{StoresEach}
use Rattle.dl_core.proofs.Tracing.{each_follows}
use Rattle.dl_core.proofs.Journals.{IsSameCore, event_follows}

-- what the registry keeps of it
registry_left : (outcome : Result Registry RegistryFault) (old new : Kept) → Applies outcome old outcome new → (new.first ≡ old.first) × (new.held ≡ old.held) × (new.registry ≡ result_unwrap_or outcome old.registry)
registry_left (Ok left) old new call =
    (ap (λ (k : Kept). k.first) call.1, ap (λ (k : Kept). k.held) call.1, ap (λ (o : Result Registry RegistryFault). result_unwrap_or o old.registry) (sym call.0))
registry_left (Err fault.OutOfMemory) old new call = absurd (cc (call.0))
registry_left (Err other) old new call = (ap (λ (k : Kept). k.first) call.1, ap (λ (k : Kept). k.held) call.1, ap (λ (k : Kept). k.registry) call.1)

registry_messages : (setting : Setting) (events : List Event) (channel : ℕ) (msg : UserMsg) (moment : Moment) (old new : Kept) → registry.IsAfter setting events old
    → Applies (applied (slots old) old.registry channel msg) old (applied (slots old) old.registry channel msg) new → registry.IsAfter setting (events ++ event.User channel msg moment ∷ []) new
registry_messages setting events channel msg moment old new is call =
    let left = registry_left (applied (slots old) old.registry channel msg) old new call in
    after_event setting events (event.User channel msg moment) old new is (λ slot. refl) left.0 left.1 left.2

-- a call that leaves the rest of the core
pub same_core : (old new : Core) → new ≡ record old { registry = new.registry; hub = new.hub; trace = new.trace } → IsSameHub old.hub new.hub → IsSameCore old new
same_core old new rest hub = record {
  ecu = ap (λ (k : Core). k.ecu) rest;
  level = ap (λ (k : Core). k.level) rest;
  injection = ap (λ (k : Core). k.injection) rest;
  software = ap (λ (k : Core). k.software) rest;
  hub = hub;
}

pub user_follows : (channel : ℕ) (msg : UserMsg) (moment : Moment) (old new : Core) (told told_now : FolderTold)
    → IsSameCore old new
    → Applies (applied (slots old.registry) old.registry.registry channel msg) old.registry (applied (slots old.registry) old.registry.registry channel msg) new.registry
    → Admits (user_frames old.ecu msg) old.hub new.hub
    → StoresEach (map (stored old.ecu moment) (user_frames old.ecu msg)) old.trace new.trace told told_now
    → Adds (event.User channel msg moment ∷ []) (λ run. Unit {0}) old new told told_now
user_follows channel msg moment old new told told_now same call talks stores = λ run events taken gives is.
    let frames : user_frames run.setting.ecu msg ≡ user_frames old.ecu msg = ap (λ (e : List ℕ). user_frames e msg) (sym is.set_to.ecu) in
    let all : stored_of (source_of run) (event.User channel msg moment) ≡ map (stored old.ecu moment) (user_frames old.ecu msg) =
    ap (map (stored run.setting.ecu moment)) frames ∙ ap (λ (e : List ℕ). map (stored e moment) (user_frames old.ecu msg)) (sym is.set_to.ecu) in
    event_follows run events taken (event.User channel msg moment) (map (stored old.ecu moment) (user_frames old.ecu msg)) old new told told_now same
    (registry_messages run.setting events channel msg moment old.registry new.registry is.registry call)
    (subst (λ (fs : List (List ℕ)). Admits fs old.hub new.hub) (sym frames) talks)
    all
    (each_follows run (stored_by run events) (map (stored old.ecu moment) (user_frames old.ecu msg)) old.trace new.trace told told_now stores)
    is

-- a message that admits no frames
pub no_frames : (ecu : List ℕ) (msg : UserMsg) → has_frames msg ≡ false → user_frames ecu msg ≡ []
no_frames ecu (user.Log message) none = absurd cc
no_frames ecu (user.Overflow counter apid) none = absurd cc
no_frames ecu (user.RegisterApp apid pid text) none = refl
no_frames ecu (user.UnregisterApp apid pid) none = refl
no_frames ecu (user.RegisterContext apid ctid position level trace pid text) none = refl
no_frames ecu (user.UnregisterContext apid ctid pid) none = refl
no_frames ecu (user.LogLevel a b c) none = refl
no_frames ecu (user.Injection a b c) none = refl

pub takes_nothing : (moment : Moment) (msg : UserMsg) (old new : Core) (folder : FolderTold) → has_frames msg ≡ false → new.hub ≡ old.hub → new.trace ≡ old.trace
    → AdmitsFrames moment (user_frames old.ecu msg) old new folder folder
takes_nothing moment msg old new folder none hub trace =
    subst (λ (fs : List (List ℕ)). AdmitsFrames moment fs old new folder folder) (sym (no_frames old.ecu msg none))
    (subst (λ (h : Hub). TakesIn old.ecu moment [] old.hub h old.trace new.trace folder folder) (sym hub)
    (subst (λ (t : Option Trace). TakesIn old.ecu moment [] old.hub old.hub old.trace t folder folder) (sym trace) (takes-none old.ecu moment old.hub old.trace folder)))

-- what holds anyhow
pub always : {A E : Type 0} (P : Type 0) (result : Result A E) → P → OnOk result P
always P (Ok x) is = is
always P (Err e) is = tt
