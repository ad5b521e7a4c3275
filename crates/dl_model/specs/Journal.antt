-- The registry of a journal, the Level events that it owes, and which journals are well-formed.
use Rattle.std.specs.Prelude.{◌≡◌, ℕ, ◌+◌, ◌<◌, ◌≤◌, ◌⊎◌, Bool, true, false, ◌==◌, List, [], ◌∷◌, ◌++◌, length, map, count_by, if◌then◌else◌, Option, Some, None, IsSome, unwrap_or}
use Rattle.std.specs.List.{list_any}
use Rattle.std.specs.Option.{option_and_then, option_map}
use Rattle.std.specs.Result.{is_ok, result_unwrap_or}
use Rattle.dl_bytes.specs.Claim.{Claimed}
use Rattle.dl_bytes.specs.Limits.{open_client_limit, request_limit}
use Rattle.dl_bytes.specs.declared.outcome.Done.{Done}
use Rattle.dl_bytes.specs.declared.user.UserMsg.{UserMsg}
use Rattle.dl_events.specs.declared.event.Event.{Event}
use Rattle.dl_events.specs.declared.event.Event.TheVariants.{User, Claim, Level, Connect, Request, Close}
use Rattle.dl_events.specs.declared.event.Why.{Why}
use Rattle.dl_events.specs.declared.event.Why.TheVariants as why
use Rattle.dl_model.specs.declared.registry.LevelChange.{LevelChange}
use Rattle.dl_model.specs.declared.registry.Slot.{Slot}
use Rattle.dl_model.specs.Along.{along, last_that}
use Rattle.dl_model.specs.Backlog.{outbox_limit, size_of}
use Rattle.dl_model.specs.ClientStream.{stream}
use Rattle.dl_model.specs.Frames.{FrameSource, frames_of}
use Rattle.dl_model.specs.History.{slot_after}
use Rattle.dl_model.specs.Registry.{Registry, app_of, apid_numbered, applied, claimed, registrations, next_change}
use Rattle.dl_model.specs.Reply.{Need, apid_of, asked, ctid_of, MayAnswer, need_of, reply_frame_to, served}
use Rattle.dl_model.specs.Setting.{Setting}

-- ---- the registry of a journal

-- at the beginning: the stored default level, or else that of `ContextLogLevel`; the stored own levels; nobody there
abbrev pub start : Setting → Registry
start setting = record { level = unwrap_or setting.stored.level setting.level; stored = setting.stored.own; apps = [] }

-- what one event makes of the registry: a user message that is refused leaves it, and so does a claim that changes nothing
abbrev pub step : Setting → (ℕ → Slot) → Registry → Event → Registry
step setting slots registry (User channel msg moment) = result_unwrap_or (applied slots registry channel msg) registry
step setting slots registry (Claim claim moment) = unwrap_or (claimed slots registry claim) registry
step setting slots registry (Request client frame answer) = served setting slots registry (asked frame) answer
step setting slots registry _ = registry

-- the registry that these events make of another one, after those before
abbrev pub after : Setting → List Event → Registry → List Event → Registry
after setting before registry [] = registry
after setting before registry (event ∷ events) =
    after setting (before ++ event ∷ []) (step setting (slot_after setting.first before) registry event) events

-- the registry of a journal
abbrev pub registry_of : Setting → List Event → Registry
registry_of setting events = after setting [] (start setting) events

-- what each slot holds after a journal
abbrev pub slots_of : Setting → List Event → ℕ → Slot
slots_of setting events = slot_after setting.first events

-- a user message with the channel on which it came
pub record Told : Type 0 where
  pub channel : ℕ
  pub msg : UserMsg

-- the message of an event, where the checks find no refusal in the registry of the events before it; a claim that changes
-- something is the registration of its context on channel 0
abbrev pub accepted_at : Setting → List Event → Event → List Told
accepted_at setting before (User channel msg moment) =
    if is_ok (applied (slots_of setting before) (registry_of setting before) channel msg)
    then record { channel = channel; msg = msg } ∷ []
    else []
accepted_at setting before (Claim claim moment) =
    map (λ msg. record { channel = 0; msg = msg }) (registrations (slots_of setting before) (registry_of setting before) claim)
accepted_at setting before _ = []

-- the messages that were accepted, in order
abbrev pub accepted : Setting → List Event → List Told
accepted setting events = along (accepted_at setting) events

-- the Level event that a journal owes next, where it owes one
abbrev pub owed : Setting → List Event → Option LevelChange
owed setting events = next_change (slots_of setting events) (registry_of setting events)

-- what a request needs that comes after a journal
abbrev pub need_after : Setting → List Event → List ℕ → Need
need_after setting events frame =
    need_of setting (slots_of setting events) (registry_of setting events) (apid_of frame) (ctid_of frame) (asked frame)

-- the bytes of the reply to a request that comes after a journal
abbrev pub reply_after : Setting → List Event → List ℕ → Done → List ℕ
reply_after setting events frame answer = reply_frame_to setting (slots_of setting events) (registry_of setting events) frame answer

-- where the frames of a journal's events come from: those of its log calls, the APIDs of its applications, and the registry's replies
abbrev pub source_by : Setting → (ℕ → ℕ → List ℕ) → (ℕ → List ℕ) → FrameSource
source_by setting frame apid = record { ecu = setting.ecu; frame = frame; apid = apid; reply = reply_after setting }

-- ---- clients

abbrev pub is_connect : Event → Bool
is_connect (Connect client) = true
is_connect _ = false

abbrev pub is_close : Event → Bool
is_close (Close client why) = true
is_close _ = false

-- it says of a client that it came or that it went
abbrev pub comes_or_goes : ℕ → Event → Bool
comes_or_goes client (Connect other) = other == client
comes_or_goes client (Close other why) = other == client
comes_or_goes client _ = false

-- a client is open where it came and did not go since
abbrev pub IsOpen : ℕ → List Event → Type 0
IsOpen client events = last_that (comes_or_goes client) events ≡ Some (Connect client)

abbrev pub is_request_of : ℕ → Event → Bool
is_request_of client (Request other frame answer) = other == client
is_request_of client _ = false

-- a client was closed at the daemon's stop
abbrev pub is_stop : Event → Bool
is_stop (Close client why.Stopped) = true
is_stop (Close client (why.Stuck left)) = true
is_stop _ = false

abbrev pub IsRunning : List Event → Type 0
IsRunning events = list_any is_stop events ≡ false

-- ---- clients that are too slow

abbrev pub is_slow : Event → Bool
is_slow (Close client (why.Slow room need)) = true
is_slow _ = false

-- the first event that is no Close of a slow client
abbrev pub next_put : List Event → Option Event
next_put [] = None
next_put (event ∷ events) = if is_slow event then next_put events else Some event

-- the need is that of the next event's frames
abbrev pub IsFramesNeed : FrameSource → List Event → ℕ → Type 0
IsFramesNeed source events need = option_map (λ event. size_of (frames_of source event)) (next_put events) ≡ Some need

-- the need is that of a reply, whose request is then no event
pub record IsReplyNeed (source : FrameSource) (before : List Event) (need : ℕ) : Type 0 where
  pub frame : List ℕ
  pub answer : Done
  pub length_is : need ≡ length (source.reply before frame answer)
  pub limit : need ≤ 65535

-- A client is closed as slow: its outbox has less room than is needed. It holds at most what was put into the client's
-- stream.
pub record IsTooSlow (setting : Setting) (source : FrameSource) (before : List Event) (client room need : ℕ) (events : List Event) : Type 0 where
  pub short : room < need
  pub needed : (IsFramesNeed source events need) ⊎ (IsReplyNeed source before need)
  pub held : outbox_limit setting.buffer ≤ room + size_of (stream source setting.buffer client before)

-- ---- well-formed journals

-- no Level event is owed
abbrev pub IsSettled : Setting → List Event → Type 0
IsSettled setting before = owed setting before ≡ None

-- a claim is one of an application of this process that is there
pub record MayClaim (setting : Setting) (before : List Event) (claim : Claimed) : Type 0 where
  pub settled : IsSettled setting before
  pub running : IsRunning before
  pub there : IsSome (option_and_then (app_of (registry_of setting before) 0) (apid_numbered (registry_of setting before) claim.app))

-- clients are numbered from 1 on in the order in which they come; so many may come, and at most 8 are open
pub record MayConnect (setting : Setting) (before : List Event) (client : ℕ) : Type 0 where
  pub settled : IsSettled setting before
  pub running : IsRunning before
  pub number : client ≡ 1 + count_by is_connect before
  pub limit : client ≤ setting.clients
  pub at_most : count_by is_connect before < count_by is_close before + open_client_limit

-- a client that is open has at most 1000 requests, and the answer is one that the request can have
pub record MayRequest (setting : Setting) (before : List Event) (client : ℕ) (frame : List ℕ) (answer : Done) : Type 0 where
  pub settled : IsSettled setting before
  pub is_open : IsOpen client before
  pub limit : count_by (is_request_of client) before < request_limit
  pub answered : MayAnswer (need_after setting before frame) answer

-- what a Close tells of a slow client is so
abbrev pub IsSlowAsTold : Setting → FrameSource → List Event → ℕ → Why → List Event → Type 0
IsSlowAsTold setting source before client (why.Slow room need) events = IsTooSlow setting source before client room need events
IsSlowAsTold setting source before client _ events = Unit {0}

-- a client is closed once, and one that is slow for that cause
pub record MayClose (setting : Setting) (source : FrameSource) (before : List Event) (client : ℕ) (why : Why) (events : List Event) : Type 0 where
  pub settled : IsSettled setting before
  pub is_open : IsOpen client before
  pub slow : IsSlowAsTold setting source before client why events

-- An event stands in its turn, after those before it, with those that follow. Where Level events are owed they come first,
-- the least slot first, and none stands that isn't owed. Once clients are closed at the daemon's stop, only Closes,
-- Requests and their Level events follow.
abbrev pub IsInTurn : Setting → FrameSource → List Event → Event → List Event → Type 0
IsInTurn setting source before (Level slot level) events = owed setting before ≡ Some (record { slot = slot; level = level })
IsInTurn setting source before (Claim claim moment) events = MayClaim setting before claim
IsInTurn setting source before (Connect client) events = MayConnect setting before client
IsInTurn setting source before (Request client frame answer) events = MayRequest setting before client frame answer
IsInTurn setting source before (Close client why) events = MayClose setting source before client why events
IsInTurn setting source before event events = IsSettled setting before × IsRunning before

abbrev pub AreInTurn : Setting → FrameSource → List Event → List Event → Type 0
AreInTurn setting source before [] = Unit {0}
AreInTurn setting source before (event ∷ events) =
    IsInTurn setting source before event events × AreInTurn setting source (before ++ event ∷ []) events

-- a well-formed journal: each event stands in its turn
abbrev pub IsWellFormed : Setting → FrameSource → List Event → Type 0
IsWellFormed setting source events = AreInTurn setting source [] events
