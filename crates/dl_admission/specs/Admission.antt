-- What is admitted: events with frames, each behind the Closes of the clients that are too slow for it.
use Rattle.std.specs.Prelude.{◌≡◌, ◌<◌, ◌==◌, ℕ, ◌+◌, List, [], ◌∷◌, ◌++◌, length, map, None, IsSome, is_some, count_by, if◌then◌else◌}
use Rattle.std.specs.List.{AllByRecursion}
use Rattle.dl_bytes.specs.declared.item.Item.{Item}
use Rattle.dl_bytes.specs.declared.moment.Moment.{Moment}
use Rattle.dl_bytes.specs.declared.user.UserMsg.{UserMsg}
use Rattle.dl_events.specs.declared.event.Event.{Event}
use Rattle.dl_events.specs.declared.event.Event.TheVariants as event
use Rattle.dl_message.specs.Frames.{log_message}
use Rattle.dl_model.specs.Backlog.{size_of}
use Rattle.dl_model.specs.Frames.{user_frames}
use Rattle.dl_model.specs.Journal.{IsRunning, IsWellFormed}
use Rattle.dl_model.specs.Report.{why_of}
use Rattle.dl_hub.specs.State.{Hub, IsSameHub, is_open, outbox_of, replies_of}
use Rattle.dl_core.specs.Admission.{AddsEach, GivesApid, GivesFrames, log_event, lost_frames, message_frames, more_noted}
use Rattle.dl_core.specs.Follows.{Adds, IsAfter, Run, source_of}
use Rattle.dl_admission.specs.Kept.{KeepsTrace}
use Rattle.dl_admission.specs.Part.{Part}
use Rattle.dl_admission.specs.Slow.{Slow, TellRooms, slow_close}

-- ---- events with frames

-- an event, and how many bytes its frames have
pub record Entry : Type 0 where
  pub event : Event
  pub need : ℕ

-- that of a log call that was taken from its ring
abbrev pub call_entry : List ℕ → Moment → Item → Entry
call_entry ecu moment item = record { event = log_event moment item; need = length (log_message ecu item) }

-- that of a report of so many lost calls; there is none of no calls
abbrev pub loss_entries : List ℕ → Moment → ℕ → List ℕ → ℕ → List Entry
loss_entries ecu moment app apid count =
    if count == 0 then [] else record { event = event.Lost app count moment; need = size_of (lost_frames ecu apid count) } ∷ []

-- that of a user message
abbrev pub message_entry : List ℕ → Moment → ℕ → UserMsg → Entry
message_entry ecu moment channel msg = record { event = event.User channel msg moment; need = size_of (user_frames ecu msg) }

-- ---- what is noted of them

-- slow clients in the order of their numbers, from above this one on
abbrev pub AreInOrder : ℕ → List Slow → Type 0
AreInOrder after [] = Unit {0}
AreInOrder after (slow ∷ slows) = (after < slow.client) × AreInOrder slow.client slows

-- Each entry's event is noted in turn, behind the Closes of clients with too little room for its frames, in the order of their numbers;
-- and nothing else is noted.
abbrev pub AreNoted : List Entry → List Event → Type 0
AreNoted [] noted = noted ≡ []
AreNoted (entry ∷ entries) noted =
    (slows : List Slow) × (later : List Event) × (noted ≡ map (slow_close entry.need) slows ++ entry.event ∷ later)
    × AreInOrder 0 slows × AllByRecursion (λ slow. slow.room < entry.need) slows × AreNoted entries later

-- The clients that came are the same, with the replies that they were put. One is open afterwards where it was before and none of these
-- events closes it; and only one that was open is closed.
pub record KeepsClients (noted : List Event) (old new : Hub) : Type 0 where
  pub same : IsSameHub old new
  pub replies : replies_of new ≡ replies_of old
  pub stay : (client : ℕ) → why_of client noted ≡ None → is_some (outbox_of new client) ≡ is_some (outbox_of old client)
  pub go : (client : ℕ) → IsSome (why_of client noted) → IsSome (outbox_of old client) × (outbox_of new client ≡ None)

-- These entries are admitted, of so many frames: they are noted, behind the Closes of slow clients, and none of these events is of the
-- daemon's stop. The core stands for the journal with these events more, in each run that gives what was handed in; a well-formed
-- journal stays so where no client was stopped before, and each Close tells the very room that there was.
pub record Admits (entries : List Entry) (Gives : Run → Type 0) (frames : ℕ) (old new : Part) : Type 0 where
  pub more : List Event
  pub events : AddsEach old.events new.events more
  pub noted : AreNoted entries more
  pub running : IsRunning more
  pub after : Adds more Gives old.core new.core old.folder new.folder
  pub formed : (run : Run) (past : List Event) (taken : ℕ → List ℕ) → Gives run → IsAfter run past taken old.core
      → IsRunning past → IsWellFormed run.setting (source_of run) past → IsWellFormed run.setting (source_of run) (past ++ more)
  pub rooms : (run : Run) (past : List Event) (taken : ℕ → List ℕ) → Gives run → IsAfter run past taken old.core → TellRooms run taken past more
  pub admitted : new.core.hub.admitted ≡ old.core.hub.admitted + frames
  pub clients : KeepsClients more old.core.hub new.core.hub
  pub trace : KeepsTrace old.core.trace new.core.trace old.folder new.folder
  pub rest : new.core ≡ record old.core { hub = new.core.hub; trace = new.core.trace }

-- log calls of one moment
abbrev pub Logs : Moment → List Item → Part → Part → Type 0
Logs moment items old new = Admits (map (call_entry old.core.ecu moment) items) (GivesFrames items) (length items) old new

-- a report of so many lost calls of an application; of none, nothing
abbrev pub Tells : Moment → ℕ → List ℕ → ℕ → Part → Part → Type 0
Tells moment app apid count old new =
    Admits (loss_entries old.core.ecu moment app apid count) (GivesApid app apid) (length (lost_frames old.core.ecu apid count)) old new

-- a user message
abbrev pub Forwards : Moment → ℕ → UserMsg → Part → Part → Type 0
Forwards moment channel msg old new =
    Admits (message_entry old.core.ecu moment channel msg ∷ []) (λ run. Unit {0}) (length (user_frames old.core.ecu msg)) old new

-- user messages of one channel and one moment
abbrev pub ForwardsAll : Moment → ℕ → List UserMsg → Part → Part → Type 0
ForwardsAll moment channel msgs old new =
    Admits (map (message_entry old.core.ecu moment channel) msgs) (λ run. Unit {0}) (length (message_frames old.core.ecu msgs)) old new

-- ---- the journal's count and room

-- So many events, and a Close of each client that is open no longer, were noted: the count of noted events rose by them, and the journal's
-- room fell by as many.
pub record Uses (events : ℕ) (old new : Hub) (noted noted_now spare spare_now : ℕ) : Type 0 where
  pub closed : ℕ
  pub clients : count_by is_open new.clients + closed ≡ count_by is_open old.clients
  pub noted_so : noted_now ≡ more_noted (events + closed) noted
  pub spare_so : spare_now + events + closed ≡ spare
