-- The kinds of step that a daemon makes, each with what it changes and its cause, and lists of steps.
use Rattle.std.specs.Prelude.{◌≡◌, ◌<◌, ◌≤◌, ◌⊎◌, ◌+◌, ◌-◌, ◌^◌, ℕ, nat_eq, true, false, min, List, [], ◌∷◌, ◌++◌, length, map, take, Option, Some, None, IfSome, IsSome}
use Rattle.std.specs.List.{AllByRecursion}
use Rattle.std.specs.Map.{set_value}
use Rattle.dl_admission.specs.Admission.{ForwardsAll, Logs, Tells}
use Rattle.dl_admission.specs.Part.{Part, part}
use Rattle.dl_bytes.specs.Claim.{Claimed}
use Rattle.dl_bytes.specs.Cutting.{AreCut}
use Rattle.dl_bytes.specs.declared.item.Item.{Item}
use Rattle.dl_bytes.specs.declared.moment.Moment.{Moment}
use Rattle.dl_bytes.specs.declared.user.UserMsg.{UserMsg}
use Rattle.dl_bytes.specs.declared.user.UserMsg.TheVariants.{UnregisterApp}
use Rattle.dl_channel.specs.declared.outcome.ChannelEnd.{ChannelEnd}
use Rattle.dl_channel.specs.declared.outcome.ChannelEnd.TheVariants as end
use Rattle.dl_channel_turns.specs.Levels.{TellsLevel}
use Rattle.dl_channel_turns.specs.Messages.{Notes}
use Rattle.dl_channel_turns.specs.Pumping.{PumpsOne}
use Rattle.dl_channel_turns.specs.State as program
use Rattle.dl_channel_turns.specs.State.{without}
use Rattle.dl_channel_turns.specs.Turns.{StopsAt}
use Rattle.dl_core.specs.Admission.{has_frames}
use Rattle.dl_core.specs.Noting.{NotesClaim, NotesMessage}
use Rattle.dl_core.specs.Registering.{Registers}
use Rattle.dl_bytes.specs.declared.conf.Conf.{Conf}
use Rattle.dl_desk.specs.Told.{ControlTold}
use Rattle.dl_events.specs.declared.event.Why.{Why}
use Rattle.dl_events.specs.declared.event.Why.TheVariants as why
use Rattle.dl_hub.specs.Pumping.{IsOnlySent, Pumps}
use Rattle.dl_hub.specs.State.{HasPlace, outbox_of}
use Rattle.dl_message.specs.Cutting.{Cutting}
use Rattle.dl_message.specs.Requests.{requests}
use Rattle.dl_model.specs.TraceFiles.{StoredFile}
use Rattle.dl_model.specs.declared.registry.LevelChange.{LevelChange}
use Rattle.dl_outside.specs.Link.{IsFresh}
use Rattle.dl_outside.specs.Outside.{HasRisen}
use Rattle.dl_outside.specs.Told.{LinkTold}
use Rattle.dl_outside.specs.declared.link.Gave.{Gave as Answer}
use Rattle.dl_outside.specs.declared.link.Gave.TheVariants as answer
use Rattle.dl_registry.specs.Kept.{Claims, first_app}
use Rattle.dl_ring.specs.declared.item.RingItem.TheVariants.{Log, Register}
use Rattle.dl_rounds.specs.Arrivals.{Connects}
use Rattle.dl_rounds.specs.Greetings.{own_channel}
use Rattle.dl_rounds.specs.Partings.{ShutsGone}
use Rattle.dl_rounds.specs.Visits.{IsShut}
use Rattle.dl_socket.specs.Channels.{Opens, Refuses, inbox_of, without_inbox}
use Rattle.dl_socket.specs.declared.fault.ChannelFault.TheVariants.{Full, Spent}
use Rattle.dl_taking.specs.Takes.{owned, owned_claim}
use Rattle.dl_taking.specs.Took.{with_items, with_losses}
use Rattle.dl_trace.specs.Made.{HasBegun}
use Rattle.dl_trace.specs.State.{Trace}
use Rattle.dl_turns.specs.Events.{Asks, Closes}
use Rattle.dl_turns.specs.Sent.{HasCut, is_bad}
use Rattle.dl_turns.specs.State.{Side, side}
use Rattle.dl_turns.specs.Turns.{HasGiven, Hears, Refuses as RefusesRequest, SendsRightly, heard}
use Rattle.dl_user.specs.Channel as cutter
use Rattle.dl_user.specs.Cut.{Begins}
use Rattle.dl_machine.specs.State.{AreIdle, Changes, Client, IsIdle, IsOne, Program, State, Turn, new_client, new_program, no_turn}

-- ---- what the parts of a daemon see of it

-- a client's turn, beside what sets levels
abbrev pub side_of : State → ControlTold → Side
side_of s desk = side s.core desk s.events s.folder

-- a program's turn
abbrev pub program_side : State → program.Side
program_side s = program.side s.core s.channels.outboxes s.events s.folder

-- an admission
abbrev pub part_of : State → Part
part_of s = part s.core s.events s.folder

-- ---- the kinds

-- what is done with a client
pub data ClientKind : Type 0 where
  -- its link was asked for what it sent; why the client is to be closed, once what it asked is served; and what link and cutter are now
  Gave : Option Why → LinkTold → Cutting → ClientKind
  -- a request was served
  Asked : List ℕ → ClientKind
  -- its link took some of what waits; why the client is to be closed, where it is
  Sent : Option Why → LinkTold → ClientKind
  -- it was closed for this cause
  Closed : Why → ClientKind
  -- its link was shut
  Parted : LinkTold → ClientKind

-- what is done with a channel, and with its program outside
pub data ProgramKind : Type 0 where
  -- its link was asked for what the program sent; why the channel ends, where it does; what link and inbox are now; and the messages to take in
  Said : Option ChannelEnd → LinkTold → cutter.Channel → List UserMsg → ProgramKind
  -- messages with frames were admitted, each behind the Closes of clients that are too slow for it
  Forwarded : Moment → List UserMsg → ProgramKind
  -- another message was noted, and the channel is told the level of a context that it registers, where that owes no Level event
  Noted : Moment → UserMsg → ProgramKind
  -- an application of a channel that ends was unregistered
  Unregistered : Moment → List ℕ → ProgramKind
  -- its link took some of what waits; why the channel ends, where it does
  TookLevels : Option ChannelEnd → LinkTold → ProgramKind
  -- its link was shut
  ShutOff : LinkTold → ProgramKind
  -- it ended
  Ended : ProgramKind

-- what is taken of the applications of this process
pub data RingKind : Type 0 where
  -- calls, of the ring of this one, and admitted
  TookCalls : ℕ → Moment → List Item → RingKind
  -- a claim
  TookClaim : ℕ → Moment → Claimed → RingKind
  -- its losses, which were told
  TookLosses : ℕ → Moment → List ℕ → ℕ → RingKind
  -- a message, which was noted
  Greeted : Moment → UserMsg → RingKind

pub data Kind : Type 0 where
  -- a client of this number connected, over this link
  Came : ℕ → LinkTold → Kind
  -- a channel of this number opened, over this link
  Entered : ℕ → LinkTold → Kind
  -- a link was dropped
  LetGo : Kind
  -- memory was wanted
  Wanted : Kind
  -- a level was noted, and put for the program that has the context
  Levelled : LevelChange → Kind
  -- something was done with the client of a number, or with the channel of a number
  OfClient : ℕ → ClientKind → Kind
  OfProgram : ℕ → ProgramKind → Kind
  -- something was taken of this process
  OfRings : RingKind → Kind
  -- the links of all clients that are gone were shut
  PartedAll : Kind
  -- a trace was begun anew, or the folder was asked for it
  Renewed : Kind
  -- the daemon stops from now on
  Stopping : Kind

-- ---- causes

-- why a link may be dropped: the hub has no place; no channel opens; or memory was wanted
abbrev pub MayLetGo : State → Type 0
MayLetGo s = (HasPlace s.core.hub → ⊥) ⊎ Refuses Spent s.channels ⊎ Refuses Full s.channels ⊎ (s.wanted ≡ true)

-- a client is to be closed for what these bytes ask: for a request that is refused, or for a bad header
abbrev pub IsAsked : List ℕ → Why → Type 0
IsAsked bytes why.TooMany = Unit {0}
IsAsked bytes why.NoMemory = Unit {0}
IsAsked bytes (why.Slow room need) = Unit {0}
IsAsked bytes why.Malformed = is_bad bytes ≡ true
IsAsked bytes other = ⊥

-- The requests to serve, and why a client is to be closed, by its link's answer, where these bytes of the client were not cut before.
abbrev pub IsDue : Answer → List ℕ → List ℕ → Option Why → List (List ℕ) → Type 0
IsDue (answer.Bytes count) into unread due asks = IfSome due (IsAsked (unread ++ take count into)) × (asks ≡ requests (unread ++ take count into))
IsDue answer.NotYet into unread due asks = (due ≡ None) × (asks ≡ [])
IsDue answer.End into unread due asks = (due ≡ Some why.Left) × (asks ≡ [])
IsDue answer.Failed into unread due asks = (due ≡ Some why.Broken) × (asks ≡ [])

-- a turn that was not quiet for this may be counted
abbrev pub Counts : Type 0 → ℕ → ℕ → Type 0
Counts Moved was now = (now ≡ was) ⊎ (Moved × (now ≡ was + 1))

-- for this it is closed once all that it asked was served
abbrev pub IsServed : Why → Client → Type 0
IsServed cause client = (client.due ≡ Some cause) × (client.turn.asks ≡ [])

-- Why a client is closed: for what its link showed or for a bad header, once all that it asked was served; at the daemon's stop, where its link had nothing to
-- give once or was tried a thousand times, and took nothing where something waits; or for its next request, which is refused.
abbrev pub MayClose : ℕ → Why → Client → State → Type 0
MayClose number why.Left was old = IsServed why.Left was
MayClose number why.Broken was old = IsServed why.Broken was
MayClose number why.Malformed was old = IsServed why.Malformed was
MayClose number why.Stopped was old = (old.stops ≡ true) × IsIdle was × ((0 < was.link.idles) ⊎ (1000 ≤ was.turn.tried))
MayClose number (why.Stuck left) was old = (old.stops ≡ true) × IsIdle was × (0 < was.link.waits) × (1000 ≤ was.turn.tried)
MayClose number cause was old = (frame : List ℕ) × (others : List (List ℕ)) × (was.turn.asks ≡ frame ∷ others) × RefusesRequest number frame cause old.core

-- of a client that left the link is over, where all links that are told like this tell whether they are
abbrev pub ShowsOver : (LinkTold → Type 0) → ClientKind → Type 0
ShowsOver IsTold (Gave (Some why.Left) link cut) = ((other : LinkTold) → IsTold other → IsSome other.over) → link.over ≡ Some true
ShowsOver IsTold other = Unit {0}

-- The messages to take in, why a channel ends and what is held of what its program sent, by the link's answer: the messages stand at the front of what was
-- held and what the link gave, and behind the last one it goes on or ends.
abbrev pub Says : Answer → List ℕ → Option ChannelEnd → cutter.Channel → cutter.Channel → List UserMsg → Type 0
Says (answer.Bytes count) into ends inbox inbox_now msgs = (left : List ℕ) × AreCut Begins (inbox.unread ++ take count into) msgs left × StopsAt ends left inbox_now
Says answer.NotYet into ends inbox inbox_now msgs = (msgs ≡ []) × (ends ≡ None) × (inbox_now ≡ inbox)
Says answer.End into ends inbox inbox_now msgs = (msgs ≡ []) × (ends ≡ Some end.Left) × (inbox_now ≡ inbox)
Says answer.Failed into ends inbox inbox_now msgs = (msgs ≡ []) × (ends ≡ Some end.Broken) × (inbox_now ≡ inbox)

-- these messages of a program were to be taken in next, and no longer are
abbrev pub TakesIn : ℕ → List UserMsg → State → State → Type 0
TakesIn number msgs old new = (was : Program) × (rest : List UserMsg) × (was.said ≡ msgs ++ rest) × Changes number was (record was { said = rest }) old.programs new.programs

-- The applications of a channel may be unregistered: all messages of its program are taken in, and the channel ends, or the daemon stops.
abbrev pub MayPart : ℕ → State → Type 0
MayPart number s = (program : Program) × IsOne number s.programs program × (program.said ≡ []) × (IsSome program.end ⊎ (s.stops ≡ true))

-- the trace goes on as it was, or was begun anew in its place
abbrev pub BeginsOrStays : State → State → Type 0
BeginsOrStays old new =
    (new.core ≡ old.core)
    ⊎ ((conf : Conf) × (trace : Trace) × (new.core ≡ record old.core { trace = Some trace }) × (stood : List StoredFile) × (head : List (List ℕ)) × HasBegun conf stood head trace)

-- ---- what is done with one client; beside it no more than core, events and folder changes

abbrev pub IsClientStep : ℕ → ClientKind → State → State → Type 0
IsClientStep number (Gave due link cut) old new =
    (was : Client) × (turn : Turn) × Changes number was (record { link = link; cutter = cut; due = due; turn = turn }) old.clients new.clients
    × (gave : Answer) × (into : List ℕ) × (length into ≡ 4096) × Hears was.link link gave into × IsDue gave into was.cutter.unread due turn.asks
    × ((stream : List ℕ) → due ≡ None → HasCut stream was.cutter → HasCut (stream ++ heard gave into) cut)
    × (part_of new ≡ part_of old) × IsIdle was × Counts (HasGiven was.link.given link.given) was.turn.tried turn.tried × IsSome (outbox_of old.core.hub number)
IsClientStep number (Asked frame) old new =
    (desk : ControlTold) × (desk_now : ControlTold) × Asks number frame (side_of old desk) (side_of new desk_now)
    × (was : Client) × (others : List (List ℕ)) × (was.turn.asks ≡ frame ∷ others)
    × Changes number was (record was { turn = record was.turn { asks = others } }) old.clients new.clients
IsClientStep number (Sent due link) old new =
    (was : Client) × (turn : Turn) × Changes number was (record was { link = link; due = due; turn = turn }) old.clients new.clients
    × Pumps number old.core.hub new.core.hub was.link link × SendsRightly number due new.core was.link link × IsOnlySent was.link link
    × (part_of new ≡ record (part_of old) { core = record old.core { hub = new.core.hub } })
    × IsIdle was × (turn.asks ≡ []) × Counts (HasRisen was.link.waits link.waits) was.turn.tried turn.tried
IsClientStep number (Closed cause) old new =
    (was : Client) × MayClose number cause was old × Changes number was (record was { due = None; turn = no_turn }) old.clients new.clients
    × (desk : ControlTold) × Closes number cause (side_of old desk) (side_of new desk)
IsClientStep number (Parted link) old new =
    (was : Client) × Changes number was (record was { link = link }) old.clients new.clients × IsShut was.link link × (part_of new ≡ part_of old)

-- ---- what is done with one channel; beside it and its program no more than core, events and folder changes

abbrev pub IsProgramStep : ℕ → ProgramKind → State → State → Type 0
IsProgramStep number (Said ends link inbox msgs) old new =
    (was : Program) × ((was.end ≡ None) × (was.said ≡ [])) × Changes number was (record { link = link; end = ends; said = msgs }) old.programs new.programs
    × (held : cutter.Channel) × (inbox_of old.channels.inboxes number ≡ Some held)
    × (gave : Answer) × (into : List ℕ) × (length into ≡ 4096) × Hears was.link link gave into × Says gave into ends held inbox msgs
    × (new.channels ≡ record old.channels { inboxes = set_value (nat_eq number) old.channels.inboxes inbox }) × (part_of new ≡ part_of old) × (old.stops ≡ false)
IsProgramStep number (Forwarded moment msgs) old new =
    TakesIn number msgs old new × ForwardsAll moment number msgs (part_of old) (part_of new) × (new.channels ≡ old.channels)
    × AllByRecursion (λ msg. has_frames msg ≡ true) msgs × AreIdle old.clients
IsProgramStep number (Noted moment msg) old new =
    TakesIn number (msg ∷ []) old new × Notes number moment msg (program_side old) (program_side new)
    × (new.channels ≡ record old.channels { outboxes = new.channels.outboxes })
IsProgramStep number (Unregistered moment apid) old new =
    (first_app old.core.registry.registry number ≡ Some apid) × Notes number moment (UnregisterApp apid 0) (program_side old) (program_side new)
    × (new.channels ≡ old.channels) × (new.programs ≡ old.programs) × MayPart number old
IsProgramStep number (TookLevels ends link) old new =
    (was : Program) × (was.end ≡ None) × Changes number was (record was { link = link; end = ends }) old.programs new.programs
    × PumpsOne number ends old.channels.outboxes new.channels.outboxes was.link link
    × (new.channels ≡ record old.channels { outboxes = new.channels.outboxes }) × (part_of new ≡ part_of old)
IsProgramStep number (ShutOff link) old new =
    (was : Program) × Changes number was (record was { link = link }) old.programs new.programs × IsShut was.link link
    × (new.channels ≡ old.channels) × (part_of new ≡ part_of old)
IsProgramStep number Ended old new =
    (first_app old.core.registry.registry number ≡ None)
    × (new.channels ≡ record old.channels { outboxes = without number old.channels.outboxes; inboxes = without_inbox number old.channels.inboxes })
    × (new.programs ≡ old.programs) × (part_of new ≡ part_of old) × MayPart number old

-- ---- what is taken of this process, or noted of it: where it has applications of its own, no channel opens

abbrev pub IsRingStep : RingKind → State → State → Type 0
IsRingStep (TookCalls app moment items) old new =
    Logs moment (map (owned app) items) (part_of old) (part_of new) × (new.took ≡ with_items app (map Log items) old.took)
    × AreIdle old.clients
IsRingStep (TookClaim app moment claim) old new =
    NotesClaim moment (owned_claim app claim) old.core new.core old.events new.events × Claims (owned_claim app claim) old.core.registry new.core.registry
    × (new.core ≡ record old.core { registry = new.core.registry }) × (new.folder ≡ old.folder) × (new.took ≡ with_items app (Register claim ∷ []) old.took)
IsRingStep (TookLosses app moment apid count) old new =
    Tells moment app apid count (part_of old) (part_of new) × (new.took ≡ with_losses app count old.took) × AreIdle old.clients
IsRingStep (Greeted moment msg) old new =
    NotesMessage moment own_channel msg old.core new.core old.folder new.folder old.events new.events × Registers own_channel msg old.core new.core.registry
    × (new.took ≡ old.took)

-- ---- a step of each kind, where new links are told like this

abbrev pub IsStep : (LinkTold → Type 0) → Kind → State → State → Type 0
IsStep IsTold (Came number link) old new =
    IsFresh link × IsTold link × Connects number old.core new.core old.events new.events
    × (new ≡ record old { core = new.core; events = new.events; clients = old.clients ++ new_client link ∷ [] })
IsStep IsTold (Entered number link) old new =
    IsFresh link × IsTold link × Opens number old.channels new.channels
    × (new ≡ record old { channels = new.channels; programs = old.programs ++ new_program link ∷ [] })
IsStep IsTold LetGo old new = MayLetGo old × (new ≡ record old { dropped = min (old.dropped + 1) (2 ^ 32 - 1) })
IsStep IsTold Wanted old new = new ≡ record old { wanted = true }
IsStep IsTold (Levelled change) old new =
    TellsLevel change (program_side old) (program_side new)
    × (new ≡ record old { core = new.core; events = new.events; folder = new.folder; channels = record old.channels { outboxes = new.channels.outboxes } })
IsStep IsTold (OfClient number kind) old new =
    (1 ≤ number) × IsClientStep number kind old new × (new ≡ record old { core = new.core; events = new.events; folder = new.folder; clients = new.clients })
    × ShowsOver IsTold kind
IsStep IsTold (OfProgram number kind) old new =
    (1 ≤ number) × IsProgramStep number kind old new
    × (new ≡ record old { core = new.core; events = new.events; folder = new.folder; channels = new.channels; programs = new.programs })
IsStep IsTold (OfRings kind) old new =
    IsRingStep kind old new × (new ≡ record old { core = new.core; events = new.events; folder = new.folder; took = new.took }) × (old.channels.in_all ≡ 0)
IsStep IsTold PartedAll old new =
    ShutsGone old.core.hub (map (λ c. c.link) old.clients) (map (λ c. c.link) new.clients)
    × (map (λ c. c.cutter) new.clients ≡ map (λ c. c.cutter) old.clients) × (map (λ c. c.due) new.clients ≡ map (λ c. c.due) old.clients)
    × (new ≡ record old { clients = new.clients }) × (map (λ c. c.turn) new.clients ≡ map (λ c. c.turn) old.clients)
IsStep IsTold Renewed old new = BeginsOrStays old new × (new ≡ record old { core = new.core; folder = new.folder })
IsStep IsTold Stopping old new = new ≡ record old { stops = true }

-- ---- lists of them

-- one state comes of the other by steps of these kinds, one after the other
abbrev pub Steps : (LinkTold → Type 0) → List Kind → State → State → Type 0
Steps IsTold [] old new = new ≡ old
Steps IsTold (kind ∷ kinds) old new = (between : State) × IsStep IsTold kind old between × Steps IsTold kinds between new

-- it comes of it by steps
pub record Goes (IsTold : LinkTold → Type 0) (old new : State) : Type 0 where
  pub kinds : List Kind
  pub steps : Steps IsTold kinds old new

-- a link tells what some link of this kind does
abbrev pub IsToldBy : {L : Type 0} → (L → LinkTold) → LinkTold → Type 0
IsToldBy {L} told link = (l : L) × (link ≡ told l)
