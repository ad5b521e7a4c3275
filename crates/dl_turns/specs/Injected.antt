-- What the queues of applications took and refused, told by a journal's events.
use Rattle.std.specs.Prelude.{◌≡◌, ℕ, ◌+◌, ◌<◌, ◌≤◌, ◌==◌, List, [], ◌∷◌, ◌++◌, length, if◌then◌else◌}
use Rattle.dl_bytes.specs.declared.item.Injection.{Injection}
use Rattle.dl_bytes.specs.declared.outcome.Done.{Done}
use Rattle.dl_bytes.specs.declared.outcome.Done.TheVariants as did
use Rattle.dl_events.specs.declared.event.Event.{Event}
use Rattle.dl_events.specs.declared.event.Event.TheVariants as event
use Rattle.dl_model.specs.Along.{along_from}
use Rattle.dl_model.specs.Journal.{registry_of, slots_of}
use Rattle.dl_model.specs.Reply.{apid_of, asked, ctid_of}
use Rattle.dl_model.specs.Setting.{Setting}
use Rattle.dl_desk.specs.Told.{ControlTold}
use Rattle.dl_services.specs.Wish.{wanted}
use Rattle.dl_services.specs.declared.wish.Want.{Want}
use Rattle.dl_services.specs.declared.wish.Want.TheVariants as want

-- what a request wants that comes after a journal
abbrev pub wanted_after : Setting → List Event → List ℕ → Want
wanted_after setting before frame = wanted setting (slots_of setting before) (registry_of setting before) (apid_of frame) (ctid_of frame) (asked frame)

-- the injection that goes to this application
abbrev pub sent_to : ℕ → Want → List Injection
sent_to app (want.Inject other injection) = if app == other then injection ∷ [] else []
sent_to app other = []

-- its queue took that of a request that is done, and refused that of one that failed
abbrev pub taken_of : ℕ → Done → Want → List Injection
taken_of app did.Yes want = sent_to app want
taken_of app other want = []

abbrev pub refused_of : ℕ → Done → Want → List Injection
refused_of app did.Failed want = sent_to app want
refused_of app other want = []

-- what an event has of these, after a journal
abbrev pub injected_at : Setting → ℕ → List Event → Event → List Injection
injected_at setting app before (event.Request client frame answer) = taken_of app answer (wanted_after setting before frame)
injected_at setting app before other = []

abbrev pub refused_at : Setting → ℕ → List Event → Event → List Injection
refused_at setting app before (event.Request client frame answer) = refused_of app answer (wanted_after setting before frame)
refused_at setting app before other = []

-- what events have of these that come after a journal, in order
abbrev pub injected_by : Setting → ℕ → List Event → List Event → List Injection
injected_by setting app before events = along_from (injected_at setting app) before events

abbrev pub refused_by : Setting → ℕ → List Event → List Event → List Injection
refused_by setting app before events = along_from (refused_at setting app) before events

-- Where the queue of an application took so many before these events, each that it refused in them came after at least 16 that it took.
abbrev pub AreRefusedFull : Setting → ℕ → ℕ → List Event → List Event → Type 0
AreRefusedFull setting app count before [] = Unit {0}
AreRefusedFull setting app count before (one ∷ events) =
    (0 < length (refused_at setting app before one) → 16 ≤ count)
    × AreRefusedFull setting app (count + length (injected_at setting app before one)) (before ++ one ∷ []) events

-- The queue of an application took and refused just the injections of these events, which come after a journal.
pub record HasInjected (setting : Setting) (before events : List Event) (app : ℕ) (old new : ControlTold) : Type 0 where
  pub took : new.pushed app ≡ old.pushed app ++ injected_by setting app before events
  pub refused : new.refusals app ≡ old.refusals app + length (refused_by setting app before events)
  pub full : AreRefusedFull setting app (length (old.pushed app)) before events
