-- What steps note beside levels, and that the registry goes on to be that of the events.
use Rattle.std.proofs.Common.{◌≡◌, ℕ, true, List, [], ◌∷◌, ◌++◌, map, Option, Result, Ok, Err, refl, sym, ap, subst, ◌∙◌, append-nil, append_assoc}
use Rattle.std.specs.List.{AllByRecursion}
use Rattle.std.specs.Result.{result_unwrap_or}
use Rattle.dl_admission.proofs.Added.{adds_each_none}
use Rattle.dl_admission.proofs.Told.{all_noted, events_of}
use Rattle.dl_admission.specs.Admission.{message_entry}
use Rattle.dl_admission.specs.Part.{Part}
use Rattle.dl_bytes.specs.declared.moment.Moment.{Moment}
use Rattle.dl_bytes.specs.declared.outcome.Done.{Done}
use Rattle.dl_bytes.specs.declared.user.UserMsg.{UserMsg}
use Rattle.dl_bytes.specs.declared.user.UserMsg.TheVariants as user
use Rattle.dl_core.proofs.Asked.{served_alike}
use Rattle.dl_core.proofs.Noted.{added_one}
use Rattle.dl_core.specs.Admission.{AddsEach, has_frames}
use Rattle.dl_core.specs.Registering.{Registers, applied_now}
use Rattle.dl_core.specs.Serving.{served_now}
use Rattle.dl_core.specs.Settings.{seen}
use Rattle.dl_core.specs.State.{Core}
use Rattle.dl_events.specs.declared.event.Event.{Event}
use Rattle.dl_events.specs.declared.event.Event.TheVariants as event
use Rattle.dl_model.specs.Registry.{Registry}
use Rattle.dl_model.specs.Reply.{asked}
use Rattle.dl_model.specs.Setting.{Setting}
use Rattle.dl_model.specs.declared.registry.RegistryFault.{RegistryFault}
use Rattle.dl_model.specs.declared.registry.RegistryFault.TheVariants as fault
use Rattle.dl_registry.proofs.Following.{after_event}
use Rattle.dl_registry.specs.Kept as registry
use Rattle.dl_registry.specs.Kept.{Applies, Kept, slots}
use Rattle.dl_machine.specs.State.{State}
use Rattle.dl_machine.specs.Steps.{Asked, ClientKind, Closed, Ended, Forwarded, Gave, IsClientStep, IsProgramStep, Noted, Parted, ProgramKind, Said, Sent, ShutOff, TookLevels, Unregistered, part_of}

-- The registry is that of these events, and contexts have the level of the setting where nothing else is set.
pub record Follows (setting : Setting) (past : List Event) (core : Core) : Type 0 where
  pub registry : registry.IsAfter setting past core.registry
  pub level : core.level ≡ setting.level

-- no level and no claim, and a message of this channel alone
abbrev pub IsQuiet : ℕ → Event → Type 0
IsQuiet from (event.User other msg moment) = other ≡ from
IsQuiet from (event.Level slot level) = ⊥
IsQuiet from (event.Claim claim moment) = ⊥
IsQuiet from other = Unit {0}

-- nothing that puts a message for a channel: no level, and no context that registers
abbrev RegistersNone : UserMsg → Type 0
RegistersNone (user.RegisterContext apid ctid position level trace pid text) = ⊥
RegistersNone other = Unit {0}

abbrev pub IsSilent : Event → Type 0
IsSilent (event.User other msg moment) = RegistersNone msg
IsSilent (event.Level slot level) = ⊥
IsSilent other = Unit {0}

-- and nothing that concerns the registry
abbrev IsAside : ℕ → Event → Type 0
IsAside from (event.User other msg moment) = (other ≡ from) × (has_frames msg ≡ true)
IsAside from (event.Level slot level) = ⊥
IsAside from (event.Claim claim moment) = ⊥
IsAside from (event.Request client frame answer) = ⊥
IsAside from other = Unit {0}

asides_quiet : (from : ℕ) (events : List Event) → AllByRecursion (IsAside from) events → AllByRecursion (IsQuiet from) events
asides_quiet from [] all = tt
asides_quiet from (e ∷ events) all = (by e all.0, asides_quiet from events all.1) where
  by : (e : Event) → IsAside from e → IsQuiet from e
  by (event.User other msg moment) aside = aside.0
  by (event.Level slot level) aside = absurd aside
  by (event.Claim claim moment) aside = absurd aside
  by _ aside = tt

asides_silent : (from : ℕ) (events : List Event) → AllByRecursion (IsAside from) events → AllByRecursion IsSilent events
asides_silent from [] all = tt
asides_silent from (e ∷ events) all = (by e all.0, asides_silent from events all.1) where
  of_frames : (msg : UserMsg) → has_frames msg ≡ true → RegistersNone msg
  of_frames (user.RegisterContext apid ctid position level trace pid text) has = absurd (cc has)
  of_frames _ has = tt

  by : (e : Event) → IsAside from e → IsSilent e
  by (event.User other msg moment) aside = of_frames msg aside.1
  by (event.Level slot level) aside = absurd aside
  by _ aside = tt

-- Such events were noted, and the registry goes on to be that of the events.
pub record Noting (from : ℕ) (old new : State) : Type 0 where
  pub more : List Event
  pub events : AddsEach old.events new.events more
  pub quiet : AllByRecursion (IsQuiet from) more
  pub follows : (setting : Setting) (past : List Event) → Follows setting past old.core → Follows setting (past ++ more) new.core

-- The same, and nothing was put for a channel.
pub record Silently (from : ℕ) (old new : State) : Type 0 where
  pub notes : Noting from old new
  pub silent : AllByRecursion IsSilent notes.more

-- ---- the registry behind one event more

module _ (setting : Setting) (kept : Kept) where
  frames_follow : (past : List Event) (from : ℕ) (moment : Moment) (msg : UserMsg) → has_frames msg ≡ true → registry.IsAfter setting past kept → registry.IsAfter setting (past ++ event.User from msg moment ∷ []) kept
  frames_follow past from moment (user.Log message) has is = after_event setting past (event.User from (user.Log message) moment) kept kept is (λ slot. refl) refl refl refl
  frames_follow past from moment (user.Overflow counter apid) has is = after_event setting past (event.User from (user.Overflow counter apid) moment) kept kept is (λ slot. refl) refl refl refl
  frames_follow past from moment _ has is = absurd (cc has)

  aside_follows : (from : ℕ) (past : List Event) (e : Event) → IsAside from e → registry.IsAfter setting past kept → registry.IsAfter setting (past ++ e ∷ []) kept
  aside_follows from past (event.User other msg moment) aside is = frames_follow past other moment msg aside.1 is
  aside_follows from past (event.Level slot level) aside is = absurd aside
  aside_follows from past (event.Claim claim moment) aside is = absurd aside
  aside_follows from past (event.Request client frame answer) aside is = absurd aside
  aside_follows from past other aside is = after_event setting past other kept kept is (λ slot. refl) refl refl refl

  asides_follow : (from : ℕ) (past more : List Event) → AllByRecursion (IsAside from) more → registry.IsAfter setting past kept → registry.IsAfter setting (past ++ more) kept
  asides_follow from past [] all is = subst (λ (es : List Event). registry.IsAfter setting es kept) (sym (append-nil past)) is
  asides_follow from past (e ∷ more) all is =
      subst (λ (es : List Event). registry.IsAfter setting es kept) (append_assoc past (e ∷ []) more) (asides_follow from (past ++ e ∷ []) more all.1 (aside_follows from past e all.0 is))

left_by : (outcome : Result Registry RegistryFault) (old new : Kept) → Applies outcome old outcome new → (new.first ≡ old.first) × (new.held ≡ old.held) × (new.registry ≡ result_unwrap_or outcome old.registry)
left_by (Ok left) old new call = (ap (λ (k : Kept). k.first) call.1, ap (λ (k : Kept). k.held) call.1, ap (λ (o : Result Registry RegistryFault). result_unwrap_or o old.registry) (sym call.0))
left_by (Err fault.OutOfMemory) old new call = absurd (cc (call.0))
left_by (Err other) old new call = (ap (λ (k : Kept). k.first) call.1, ap (λ (k : Kept). k.held) call.1, ap (λ (k : Kept). k.registry) call.1)

pub message_follows : (setting : Setting) (past : List Event) (channel : ℕ) (msg : UserMsg) (moment : Moment) (old : Core) (kept : Kept) → Registers channel msg old kept → registry.IsAfter setting past old.registry
    → registry.IsAfter setting (past ++ event.User channel msg moment ∷ []) kept
message_follows setting past channel msg moment old kept call is =
    let left = left_by (applied_now old channel msg) old.registry kept call in
    after_event setting past (event.User channel msg moment) old.registry kept is (λ slot. refl) left.0 left.1 left.2

request_follows : (setting : Setting) (past : List Event) (client : ℕ) (frame : List ℕ) (answer : Done) (old : Core) (kept : Kept) → kept ≡ served_now old frame answer → Follows setting past old
    → registry.IsAfter setting (past ++ event.Request client frame answer ∷ []) kept
request_follows setting past client frame answer old kept serves f =
    after_event setting past (event.Request client frame answer) old.registry kept f.registry (λ slot. refl) (ap (λ (k : Kept). k.first) serves) (ap (λ (k : Kept). k.held) serves)
    (ap (λ (k : Kept). k.registry) serves ∙ served_alike (seen old) setting (slots old.registry) old.registry.registry (asked frame) answer f.level)

-- ---- what is noted

pub notes_none : (from : ℕ) (old new : State) → new.events ≡ old.events → new.core.registry ≡ old.core.registry → new.core.level ≡ old.core.level → Silently from old new
notes_none from old new events kept level = record {
  notes = record {
    more = [];
    events = subst (λ (o : Option (List Event)). AddsEach old.events o []) (sym events) (adds_each_none old.events);
    quiet = tt;
    follows = λ setting past f. record {
      registry = subst (λ (es : List Event). registry.IsAfter setting es new.core.registry) (sym (append-nil past)) (subst (registry.IsAfter setting past) (sym kept) f.registry);
      level = level ∙ f.level;
    };
  };
  silent = tt;
}

same_part : (from : ℕ) (old new : State) → part_of new ≡ part_of old → Silently from old new
same_part from old new same = notes_none from old new (ap (λ (p : Part). p.events) same) (ap (λ (p : Part). p.core.registry) same) (ap (λ (p : Part). p.core.level) same)

pub notes_aside : (from : ℕ) (old new : State) (more : List Event) → AddsEach old.events new.events more → AllByRecursion (IsAside from) more → new.core.registry ≡ old.core.registry
    → new.core.level ≡ old.core.level → Silently from old new
notes_aside from old new more events aside kept level = record {
  notes = record {
    more = more;
    events = events;
    quiet = asides_quiet from more aside;
    follows = λ setting past f. record {
      registry = subst (registry.IsAfter setting (past ++ more)) (sym kept) (asides_follow setting old.core.registry from past more aside f.registry);
      level = level ∙ f.level;
    };
  };
  silent = asides_silent from more aside;
}

notes_one : (from : ℕ) (old new : State) (e : Event) → AddsEach old.events new.events (e ∷ []) → IsQuiet from e → new.core.level ≡ old.core.level
    → ((setting : Setting) (past : List Event) → Follows setting past old.core → registry.IsAfter setting (past ++ e ∷ []) new.core.registry) → (notes : Noting from old new) × (notes.more ≡ e ∷ [])
notes_one from old new e events quiet level after = (
  record { more = e ∷ []; events = events; quiet = (quiet, tt); follows = λ setting past f. record { registry = after setting past f; level = level ∙ f.level } },
  refl,
)

one_silent : (from : ℕ) (old new : State) (e : Event) → IsSilent e → (notes : Noting from old new) × (notes.more ≡ e ∷ []) → Silently from old new
one_silent from old new e is notes = record { notes = notes.0; silent = subst (AllByRecursion IsSilent) (sym notes.1) (is, tt) }

-- ---- each kind

pub client_notes : (number : ℕ) (kind : ClientKind) (old new : State) → IsClientStep number kind old new → Silently 0 old new
client_notes number (Gave due link cut) old new step = same_part 0 old new step.9
client_notes number (Asked frame) old new step =
    let asks = step.2 in
    let e : Event = event.Request asks.ready.client asks.ready.frame asks.serves.answer in
    one_silent 0 old new e tt (notes_one 0 old new e (added_one old.events new.events e e refl asks.serves.notes) tt (ap (λ (c : Core). c.level) asks.rest)
    (λ setting past f. request_follows setting past asks.ready.client asks.ready.frame asks.serves.answer old.core new.core.registry asks.serves.registry f))
client_notes number (Sent due link) old new step =
    notes_none 0 old new (ap (λ (p : Part). p.events) step.6) (ap (λ (p : Part). p.core.registry) step.6) (ap (λ (p : Part). p.core.level) step.6)
client_notes number (Closed cause) old new step = notes_aside 0 old new _ step.4.events (tt, tt) (ap (λ (c : Core). c.registry) step.4.core) (ap (λ (c : Core). c.level) step.4.core)
client_notes number (Parted link) old new step = same_part 0 old new step.3

frames_aside : (ecu : List ℕ) (moment : Moment) (number : ℕ) (msgs : List UserMsg) → AllByRecursion (λ (msg : UserMsg). has_frames msg ≡ true) msgs
    → AllByRecursion (IsAside number) (events_of (map (message_entry ecu moment number) msgs))
frames_aside ecu moment number [] all = tt
frames_aside ecu moment number (msg ∷ msgs) all = ((refl, all.0), frames_aside ecu moment number msgs all.1)

-- a message that was noted
pub message_notes : (number : ℕ) (moment : Moment) (msg : UserMsg) (old new : State) → IsProgramStep number (Noted moment msg) old new
    → (notes : Noting number old new) × (notes.more ≡ event.User number msg moment ∷ [])
message_notes number moment msg old new step =
    notes_one number old new (event.User number msg moment) step.1.notes.event refl (ap (λ (c : Core). c.level) step.1.rest)
    (λ setting past f. message_follows setting past number msg moment old.core new.core.registry step.1.registers f.registry)

-- all others
abbrev pub IsOther : ProgramKind → Type 0
IsOther (Noted moment msg) = ⊥
IsOther other = Unit {0}

pub program_notes : (number : ℕ) (kind : ProgramKind) (old new : State) → IsOther kind → IsProgramStep number kind old new → Silently number old new
program_notes number (Said ends link inbox msgs) old new other step = same_part number old new step.11
program_notes number (Forwarded moment msgs) old new other step =
    notes_aside number old new step.1.more step.1.events (all_noted (IsAside number) (λ need slow. tt) _ step.1.more (frames_aside old.core.ecu moment number msgs step.3) step.1.noted)
    (ap (λ (c : Core). c.registry) step.1.rest) (ap (λ (c : Core). c.level) step.1.rest)
program_notes number (Noted moment msg) old new other step = absurd other
program_notes number (Unregistered moment apid) old new other step =
    one_silent number old new (event.User number (user.UnregisterApp apid 0) moment) tt
    (notes_one number old new (event.User number (user.UnregisterApp apid 0) moment) step.1.notes.event refl (ap (λ (c : Core). c.level) step.1.rest)
    (λ setting past f. message_follows setting past number (user.UnregisterApp apid 0) moment old.core new.core.registry step.1.registers f.registry))
program_notes number (TookLevels ends link) old new other step = same_part number old new step.5
program_notes number (ShutOff link) old new other step = same_part number old new step.4
program_notes number Ended old new other step = same_part number old new step.3
