-- What contracts see of the hub and its clients.
use Rattle.std.specs.Prelude.{◌≡◌, ℕ, ◌+◌, ◌-◌, ◌^◌, ◌≤◌, ◌<◌, ◌==◌, ◌&&◌, min, nat_le, Bool, true, List, [], ◌∷◌, ◌++◌, length, count_by, sum_by, map, take, drop, slice_get, slice_set, Option, Some, None, is_some, option_map, IfSome, IsSome, IsSomeAnd, if◌then◌else◌}
use Rattle.std.specs.Option.{option_and_then, option_map_or}
use Rattle.std.specs.List.{list_any}
use Rattle.dl_bytes.specs.Limits.{open_client_limit, request_limit}
use Rattle.dl_hub.specs.Untaken.{Due, in_front, past, messages_in}

-- bytes that wait, how many may wait at most, the frames to which they belong, and the bytes that were taken of the first
-- of these frames
pub record Waiting : Type 0 where
  pub bytes : List ℕ
  pub capacity : ℕ
  pub due : List Due
  pub begun : List ℕ

-- A client that came. It has an outbox while it is open; the frames and bytes are those put into its stream so far, the
-- replies those among them. Of one that has gone there is how many bytes its link had not taken then, and of how many
-- messages the frames told that it had not taken to their last byte.
pub record Client : Type 0 where
  pub outbox : Option Waiting
  pub frames : ℕ
  pub bytes : ℕ
  pub replies : ℕ
  pub left : ℕ
  pub messages : ℕ

-- The backlog: the bytes of the frames that wait, how many they are, and how many were refused.
pub record Stored : Type 0 where
  pub ring : Waiting
  pub frames : ℕ
  pub refused : ℕ

-- The hub: the control unit that its overflow records name, the size of its backlog, the most clients that may come, the
-- clients by their numbers from 1, how many frames were admitted, and the backlog with how many frames it holds, how
-- many it refused, and the frames one by one.
pub record Hub : Type 0 where
  pub ecu : List ℕ
  pub buffer : ℕ
  pub limit : ℕ
  pub clients : List Client
  pub admitted : ℕ
  pub backlog : List ℕ
  pub frames : ℕ
  pub refused : ℕ
  pub due : List Due

abbrev pub is_open : Client → Bool
is_open client = is_some client.outbox

-- a client can take so many bytes more: its outbox has room for them, or it has none
abbrev pub takes : ℕ → Client → Bool
takes more client = option_map_or (λ outbox. nat_le (length outbox.bytes + more) outbox.capacity) client.outbox true

-- How many bytes these clients left that are gone: what was put into their streams and not taken by their links. A sum of 64 bits stops at its top.
abbrev pub left_by : List Client → ℕ
left_by clients = min (sum_by (λ client. client.left) clients) (2 ^ 64 - 1)

-- Of how many messages the frames told that clients left which are gone. It stops at the top of 64 bits too.
abbrev pub messages_left_by : List Client → ℕ
messages_left_by clients = min (sum_by (λ client. client.messages) clients) (2 ^ 64 - 1)

-- how many replies were put into the stream of each client that came
abbrev pub replies_of : Hub → List ℕ
replies_of hub = map (λ client. client.replies) hub.clients

-- a client is open
abbrev pub is_any_open : Hub → Bool
is_any_open hub = list_any is_open hub.clients

-- what waits, with more frames at its end: their bytes, and what is due of them
abbrev pub added : List ℕ → List Due → Waiting → Waiting
added more due waiting = record { bytes = waiting.bytes ++ more; capacity = waiting.capacity; due = waiting.due ++ due; begun = waiting.begun }

-- the bytes that were taken of the frame that is first when so many more are gone
abbrev pub begun_after : ℕ → Waiting → List ℕ
begun_after count waiting =
    let front = in_front (length waiting.begun) count waiting.due in
    take front (drop (length waiting.begun + count - front) (waiting.begun ++ waiting.bytes))

-- what waits, with so many bytes gone from its front
abbrev pub consumed : ℕ → Waiting → Waiting
consumed count waiting = record { bytes = drop count waiting.bytes; capacity = waiting.capacity; due = past count waiting.due; begun = begun_after count waiting }

-- what waits, with all bytes gone
abbrev pub emptied : Waiting → Waiting
emptied waiting = record { bytes = []; capacity = waiting.capacity; due = []; begun = [] }

-- a client that had a frame put into its stream that tells of so many messages; a client that is gone has none
abbrev pub with_item : List ℕ → ℕ → Client → Client
with_item frame messages client = record client {
  outbox = option_map (added frame ((length frame, messages) ∷ [])) client.outbox;
  frames = if is_open client then client.frames + 1 else client.frames;
  bytes = if is_open client then client.bytes + length frame else client.bytes;
}

-- a client that had a frame put into its stream that was admitted
abbrev pub with_frame : List ℕ → Client → Client
with_frame frame client = with_item frame 1 client

-- a client that had a reply put into its stream
abbrev pub with_reply : List ℕ → Client → Client
with_reply frame client = record client {
  outbox = option_map (added frame ((length frame, 0) ∷ [])) client.outbox;
  frames = client.frames + 1;
  bytes = client.bytes + length frame;
  replies = client.replies + 1;
}

-- a client whose link took so many bytes
abbrev pub without : ℕ → Client → Client
without count client = record client { outbox = option_map (consumed count) client.outbox }

-- the first bytes of an outbox
abbrev pub bytes_before : ℕ → Option Waiting → List ℕ
bytes_before count outbox = option_map_or (λ waiting. take count waiting.bytes) outbox []

-- a client that is open no longer: what its link has not taken is dropped
abbrev pub shut : Client → Client
shut client = record client {
  outbox = None;
  left = option_map_or (λ outbox. length outbox.bytes) client.outbox client.left;
  messages = option_map_or (λ outbox. messages_in outbox.due) client.outbox client.messages;
}

-- a backlog keeps a frame: it refused none so far, and the frame fits
abbrev pub keeps : List ℕ → Stored → Bool
keeps frame store = (store.refused == 0) && nat_le (length store.ring.bytes + length frame) store.ring.capacity

-- a backlog that a frame came to: kept or refused
abbrev pub stored : List ℕ → Stored → Stored
stored frame store = record {
  ring = record {
    bytes = if keeps frame store then store.ring.bytes ++ frame else store.ring.bytes;
    capacity = store.ring.capacity;
    due = if keeps frame store then store.ring.due ++ (length frame, 1) ∷ [] else store.ring.due;
    begun = store.ring.begun;
  };
  frames = if keeps frame store then store.frames + 1 else store.frames;
  refused = if keeps frame store then store.refused else store.refused + 1;
}

-- a client that is handed the frames that wait
abbrev pub handed : ℕ → Stored → Client
handed capacity store = record {
  outbox = Some (record { bytes = store.ring.bytes; capacity = capacity; due = store.ring.due; begun = [] });
  frames = store.frames;
  bytes = length store.ring.bytes;
  replies = 0;
  left = 0;
  messages = 0;
}

-- ---- the hub

-- the hub of these parts
abbrev pub hub_of : List ℕ → Stored → ℕ → List Client → ℕ → Hub
hub_of ecu store limit clients admitted = record {
  ecu = ecu;
  buffer = store.ring.capacity;
  limit = limit;
  clients = clients;
  admitted = admitted;
  backlog = store.ring.bytes;
  frames = store.frames;
  refused = store.refused;
  due = store.ring.due;
}

-- a hub to which nobody came
abbrev pub fresh : List ℕ → ℕ → ℕ → Hub
fresh ecu buffer limit = record { ecu = ecu; buffer = buffer; limit = limit; clients = []; admitted = 0; backlog = []; frames = 0; refused = 0; due = [] }

-- the client of a number from 1, where it came
abbrev pub client_of : Hub → ℕ → Option Client
client_of hub number = if number == 0 then None else slice_get hub.clients (number - 1)

-- its outbox, where it is open
abbrev pub outbox_of : Hub → ℕ → Option Waiting
outbox_of hub number = option_and_then (λ client. client.outbox) (client_of hub number)

-- a client is open and has room for so many bytes
abbrev pub HasRoom : ℕ → Hub → ℕ → Type 0
HasRoom more hub number = IsSomeAnd (outbox_of hub number) (λ outbox. length outbox.bytes + more ≤ outbox.capacity)

-- each open client has room for so many bytes
abbrev pub EachHasRoom : ℕ → Hub → Type 0
EachHasRoom more hub = (number : ℕ) → IfSome (outbox_of hub number) (λ outbox. length outbox.bytes + more ≤ outbox.capacity)

-- the hub where one client has changed
abbrev pub changed : ℕ → (Client → Client) → Hub → Hub
changed number change hub = record hub {
  clients = option_map_or (λ client. slice_set hub.clients (number - 1) (change client)) (client_of hub number) hub.clients;
}

-- as many clients came as may come
abbrev pub IsSpent : Hub → Type 0
IsSpent hub = length hub.clients ≡ hub.limit

-- more may come, but as many are open as may be at once
abbrev pub IsFull : Hub → Type 0
IsFull hub = (length hub.clients < hub.limit) × (count_by is_open hub.clients ≡ open_client_limit)

-- one more client may connect
abbrev pub HasPlace : Hub → Type 0
HasPlace hub = (length hub.clients < hub.limit) × (count_by is_open hub.clients < open_client_limit)

-- one more client came, behind the others: it is open, and was put no reply
abbrev pub Comes : Hub → Hub → Type 0
Comes old new = (client : Client) × (new.clients ≡ old.clients ++ client ∷ []) × IsSome client.outbox × (client.replies ≡ 0)

-- a client is open, and was put fewer replies than it may be
abbrev pub MayAsk : Hub → ℕ → Type 0
MayAsk hub number = IsSome (outbox_of hub number) × IsSomeAnd (client_of hub number) (λ client. client.replies < request_limit)

-- what doesn't change of a hub: the control unit, the size of its backlog, and the most clients that may come
pub record IsSameHub (old new : Hub) : Type 0 where
  pub ecu : new.ecu ≡ old.ecu
  pub buffer : new.buffer ≡ old.buffer
  pub limit : new.limit ≡ old.limit

-- the open client with the least number above this one, or none where none above it is open
abbrev pub IsNextOpen : Hub → ℕ → Option ℕ → Type 0
IsNextOpen hub after None = (client : ℕ) → after < client → outbox_of hub client ≡ None
IsNextOpen hub after (Some next) =
    (after < next) × IsSome (outbox_of hub next) × ((client : ℕ) → after < client → client < next → outbox_of hub client ≡ None)
