-- What the hub keeps to beside the traffic: sizes that no count passes, and the places of the clients that are open.
use Rattle.std.specs.Prelude.{◌≡◌, ℕ, ◌+◌, ◌*◌, ◌≤◌, Bool, true, List, [], ◌∷◌, length, count_by, slice_get, IfSome, if◌then◌else◌}
use Rattle.std.specs.List.{All}
use Rattle.std.specs.Option.{option_map_or}
use Rattle.dl_bytes.specs.Limits.{frame_limit, open_client_limit, request_limit, admitted_limit}
use Rattle.dl_model.specs.Backlog.{outbox_limit}
use Rattle.dl_hub.specs.State.{Client, Waiting, Hub, is_open, takes}

-- a client's outbox has the size of an outbox, and its counts are bounded by the frames that were admitted
pub record IsBounded (buffer admitted : ℕ) (client : Client) : Type 0 where
  pub outbox : IfSome client.outbox (λ outbox. (outbox.capacity ≡ outbox_limit buffer) × (length outbox.bytes ≤ outbox_limit buffer))
  pub frames : client.frames ≤ admitted + client.replies + 300
  pub bytes : client.bytes ≤ 65535 * client.frames
  pub replies : client.replies ≤ request_limit

-- an outbox of no client
abbrev pub IsFree : ℕ → Waiting → Type 0
IsFree buffer outbox = (outbox.bytes ≡ []) × (outbox.capacity ≡ outbox_limit buffer) × (outbox.due ≡ []) × (outbox.begun ≡ [])

-- all of the hub: no more clients than may come, an outbox for each that may be open, and a backlog of the buffer's size
pub record Fits (hub : Hub) (free : List Waiting) : Type 0 where
  pub ecu : length hub.ecu ≡ 4
  pub came : length hub.clients ≤ hub.limit
  pub outboxes : length free + count_by is_open hub.clients ≡ open_client_limit
  pub each : All (IsBounded hub.buffer hub.admitted) hub.clients
  pub unused : All (IsFree hub.buffer) free
  pub fits : length hub.backlog ≤ hub.buffer
  pub admissions : hub.admitted ≤ admitted_limit
  pub frames : hub.frames ≤ hub.admitted
  pub refusals : hub.refused ≤ hub.admitted
  pub bytes : length hub.backlog ≤ frame_limit * hub.frames

-- the places of those that are, the first of which has this place
abbrev pub places_of : ℕ → List Bool → List ℕ
places_of first [] = []
places_of first (is ∷ later) = if is then first ∷ places_of (first + 1) later else places_of (first + 1) later

-- the client at a place can take so many bytes more, or there is none
abbrev pub takes_at : List Client → ℕ → ℕ → Bool
takes_at clients more place = option_map_or (takes more) (slice_get clients place) true
