-- What the hub is after a list of traffic: each client's outbox is its stream less what its link took, and the backlog
-- is what waits.
use Rattle.std.specs.Prelude.{◌≡◌, ℕ, ◌<◌, ◌+◌, ◌-◌, ◌==◌, Bool, false, List, [], ◌∷◌, ◌++◌, length, drop, map, count_by, slice_get, None, Some, IfSome, if◌then◌else◌}
use Rattle.std.specs.List.{concat, range_with_len}
use Rattle.dl_model.specs.Traffic.{Traffic, Reply, clients, admitted_in, is_open}
use Rattle.dl_model.specs.Backlog.{size_of, waiting, fitting, refused}
use Rattle.dl_model.specs.ClientStream.{sent}
use Rattle.dl_hub.specs.Untaken.{all_due, begun_by, messages_in, one_message, untaken}
use Rattle.dl_hub.specs.State as state
use Rattle.dl_hub.specs.State.{Client, Hub}

-- the entry is a reply to this client
abbrev pub is_reply_to : ℕ → Traffic → Bool
is_reply_to client (Reply other frame) = other == client
is_reply_to client _ = false

-- A client stands as the traffic has it: it is open where it came and has not gone, its counts are those of its
-- stream, and its outbox is its stream less what its link took, frame by frame, with what it took of the first frame
-- that it has not taken to its last byte. Of one that has gone it is known how
-- much was left, and of how many messages that told.
pub record IsStream (ecu : List ℕ) (buffer : ℕ) (traffic : List Traffic) (taken : List ℕ) (number : ℕ) (client : Client) : Type 0 where
  pub is_there : is_open number traffic ≡ state.is_open client
  pub frames : length (sent ecu buffer number traffic) ≡ client.frames
  pub bytes : size_of (sent ecu buffer number traffic) ≡ client.bytes
  pub replies : count_by (is_reply_to number) traffic ≡ client.replies
  pub left : IfSome client.outbox (λ outbox. concat (sent ecu buffer number traffic) ≡ taken ++ outbox.bytes)
  pub due : IfSome client.outbox (λ outbox. untaken ecu buffer number traffic (length taken) ≡ outbox.due)
  pub begun : IfSome client.outbox (λ outbox. drop (length taken - begun_by ecu buffer number traffic (length taken)) taken ≡ outbox.begun)
  pub gone : client.outbox ≡ None → (rest : List ℕ) × (concat (sent ecu buffer number traffic) ≡ taken ++ rest) × (length rest ≡ client.left)
  pub lost : client.outbox ≡ None → messages_in (untaken ecu buffer number traffic (length taken)) ≡ client.messages

-- the backlog is what the buffer keeps of the frames that wait, with how many it refused
pub record IsBacklog (buffer : ℕ) (frames : List (List ℕ)) (hub : Hub) : Type 0 where
  pub bytes : concat (fitting buffer frames) ≡ hub.backlog
  pub frames_kept : length (fitting buffer frames) ≡ hub.frames
  pub refusals : refused buffer frames ≡ hub.refused
  pub due : all_due (map one_message (fitting buffer frames)) ≡ hub.due

-- the hub is what this traffic makes, where the links of its clients took these bytes
pub record IsAfter (traffic : List Traffic) (taken : ℕ → List ℕ) (hub : Hub) : Type 0 where
  pub came : clients traffic ≡ range_with_len 1 (length hub.clients)
  pub admissions : length (admitted_in traffic) ≡ hub.admitted
  pub streams : (place : ℕ) (client : Client) → slice_get hub.clients place ≡ Some client
      → IsStream hub.ecu hub.buffer traffic (taken (place + 1)) (place + 1) client
  pub untaken : (number : ℕ) → length hub.clients < number → taken number ≡ []
  pub unanswered : (number : ℕ) → length hub.clients < number → count_by (is_reply_to number) traffic ≡ 0
  pub waits : IsBacklog hub.buffer (waiting traffic) hub

-- the call is this entry of the traffic: whatever the hub was after, it is after that and the entry
abbrev pub Adds : Traffic → Hub → Hub → Type 0
Adds entry old new = (traffic : List Traffic) (taken : ℕ → List ℕ) → IsAfter traffic taken old → IsAfter (traffic ++ entry ∷ []) taken new

-- what links took, with more for one of them
abbrev pub took_more : (ℕ → List ℕ) → ℕ → List ℕ → ℕ → List ℕ
took_more taken client more other = if other == client then taken other ++ more else taken other
