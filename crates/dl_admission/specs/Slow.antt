-- Clients that are too slow: their outboxes lack the room for what is to be put into them.
use Rattle.std.specs.Prelude.{◌≡◌, ℕ, ◌+◌, ◌-◌, List, [], ◌∷◌, ◌++◌, length, map, if◌then◌else◌, IsSomeAnd}
use Rattle.std.specs.List.{concat, AllByRecursion}
use Rattle.std.specs.Option.{option_map_or}
use Rattle.dl_events.specs.declared.event.Event.{Event}
use Rattle.dl_events.specs.declared.event.Event.TheVariants as event
use Rattle.dl_events.specs.declared.event.Why.TheVariants as why
use Rattle.dl_model.specs.Backlog.{outbox_limit}
use Rattle.dl_model.specs.ClientStream.{stream}
use Rattle.dl_model.specs.Journal.{AreInTurn, IsFramesNeed}
use Rattle.dl_hub.specs.State.{Client, Hub, changed, client_of, outbox_of, shut, takes}
use Rattle.dl_core.specs.Admission.{AddsEach}
use Rattle.dl_core.specs.Closing.{MayEnd}
use Rattle.dl_core.specs.Follows.{AddsAlone, IsAfter, Run, source_of}
use Rattle.dl_core.specs.State.{Core}
use Rattle.dl_admission.specs.Part.{Part}

-- a slow client, by its number, with how many more bytes its outbox could take
pub record Slow : Type 0 where
  pub client : ℕ
  pub room : ℕ

-- how many more bytes a client's outbox can take
abbrev pub room_in : Client → ℕ
room_in client = option_map_or (λ outbox. outbox.capacity - length outbox.bytes) client.outbox 0

-- of these clients, which are numbered from here on, those that are open and have no room for so many bytes
abbrev pub slow_among : ℕ → ℕ → List Client → List Slow
slow_among need number [] = []
slow_among need number (client ∷ clients) =
    if takes need client then slow_among need (number + 1) clients
    else record { client = number; room = room_in client } ∷ slow_among need (number + 1) clients

-- those of a hub, in the order of their numbers
abbrev pub slow_clients : ℕ → Hub → List Slow
slow_clients need hub = slow_among need 1 hub.clients

-- a client is shut where it is one of them, and else is as it was
abbrev pub shut_if_slow : ℕ → Client → Client
shut_if_slow need client = if takes need client then client else shut client

-- the hub where they are shut, and no other client has changed
abbrev pub without_slow : ℕ → Hub → Hub
without_slow need hub = record hub { clients = map (shut_if_slow need) hub.clients }

-- the Close of one of them
abbrev pub slow_close : ℕ → Slow → Event
slow_close need slow = event.Close slow.client (why.Slow slow.room need)

-- What a Close tells of a slow client is so: its outbox had just this room, less than was needed, and the capacity that each outbox has.
pub record IsAsTold (need : ℕ) (hub : Hub) (slow : Slow) : Type 0 where
  pub may : MayEnd hub slow.client (why.Slow slow.room need)
  pub limit : IsSomeAnd (outbox_of hub slow.client) (λ outbox. outbox.capacity ≡ outbox_limit hub.buffer)

-- Closes stand in their turn behind whatever journal made the core what it is, where the first event behind them that is no Close of a slow
-- client has frames of so many bytes, and stands in its turn behind them.
abbrev pub StandBefore : ℕ → List Event → Core → Type 0
StandBefore need closes core =
    (run : Run) (past : List Event) (taken : ℕ → List ℕ) (later : List Event) → IsAfter run past taken core → IsFramesNeed (source_of run) later need
    → AreInTurn run.setting (source_of run) (past ++ closes) later → AreInTurn run.setting (source_of run) past (closes ++ later)

-- A Close of a slow client tells the room that its outbox had: with the bytes that its link had not taken of its stream it makes a whole
-- outbox. The links of the clients had taken these bytes.
abbrev pub TellsRoom : Run → (ℕ → List ℕ) → List Event → Event → Type 0
TellsRoom run taken before (event.Close client (why.Slow room need)) =
    (left : List ℕ) × (concat (stream (source_of run) run.setting.buffer client before) ≡ taken client ++ left) × (room + length left ≡ outbox_limit run.setting.buffer)
TellsRoom run taken before other = Unit {0}

-- each of these events, behind those before it
abbrev pub TellRooms : Run → (ℕ → List ℕ) → List Event → List Event → Type 0
TellRooms run taken before [] = Unit {0}
TellRooms run taken before (e ∷ events) = TellsRoom run taken before e × TellRooms run taken (before ++ e ∷ []) events

-- These slow clients are closed one after the other, which leaves this hub: a Close of each is noted, and nothing else has changed.
pub record Closes (need : ℕ) (slows : List Slow) (hub : Hub) (old new : Part) : Type 0 where
  pub core : new.core ≡ record old.core { hub = hub }
  pub events : AddsEach old.events new.events (map (slow_close need) slows)
  pub after : AddsAlone (map (slow_close need) slows) old.core new.core
  pub as_told : AllByRecursion (IsAsTold need old.core.hub) slows
  pub in_turn : StandBefore need (map (slow_close need) slows) old.core
  pub rooms : (run : Run) (past : List Event) (taken : ℕ → List ℕ) → IsAfter run past taken old.core → TellRooms run taken past (map (slow_close need) slows)
  pub folder : new.folder ≡ old.folder

-- all of them are closed, in the order of their numbers
abbrev pub ClosesSlow : ℕ → Part → Part → Type 0
ClosesSlow need old new = Closes need (slow_clients need old.core.hub) (without_slow need old.core.hub) old new

-- one client, where it is one of them
abbrev pub slow_at : ℕ → Hub → ℕ → List Slow
slow_at need hub client = option_map_or (λ c. slow_among need client (c ∷ [])) (client_of hub client) []

-- one client is closed, where it is one of them
abbrev pub ClosesIfSlow : ℕ → ℕ → Part → Part → Type 0
ClosesIfSlow client need old new = Closes need (slow_at need old.core.hub client) (changed client (shut_if_slow need) old.core.hub) old new
