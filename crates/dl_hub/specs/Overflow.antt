-- Frames put into a client's stream one after the other.
use Rattle.std.specs.Prelude.{ℕ, ◌+◌, ◌≤◌, ◌<◌, ◌^◌, Bool, true, false, List, [], length, Some, map, option_map, IsSomeAnd}
use Rattle.std.specs.List.{concat}
use Rattle.dl_model.specs.Backlog.{size_of}
use Rattle.dl_model.specs.Overflow.{counters, overflow_frames}
use Rattle.dl_message.specs.Frames.{overflow_record}
use Rattle.dl_control.specs.Reply.{daemon_apid, daemon_ctid}
use Rattle.dl_hub.specs.Untaken.{Due}
use Rattle.dl_hub.specs.State.{Client, Stored, added, emptied, handed}

-- an open client into whose stream frames were put, of which so much is due
abbrev pub with_frames : List (List ℕ) → List Due → Client → Client
with_frames frames due client = record client {
  outbox = option_map (added (concat frames) due) client.outbox;
  frames = client.frames + length frames;
  bytes = client.bytes + size_of frames;
}

-- the records that tell how many frames the buffer refused: each has a counter, and tells of as many messages
abbrev pub records_due : List ℕ → ℕ → List Due
records_due ecu refused = map (λ counter. (length (overflow_record ecu daemon_apid daemon_ctid counter), counter)) (counters refused)

-- a client is open and can take these frames
pub record CanTake (frames : List (List ℕ)) (client : Client) : Type 0 where
  pub room : IsSomeAnd client.outbox (λ outbox. length outbox.bytes + size_of frames ≤ outbox.capacity)
  pub count : client.frames + length frames < 2 ^ 63
  pub bytes : client.bytes + size_of frames < 2 ^ 63

-- a client that comes: where it is the first that is open, it is handed what waits, and told how many frames were refused
abbrev pub came : Bool → List ℕ → ℕ → Stored → Client
came true ecu capacity store = with_frames (overflow_frames ecu daemon_apid daemon_ctid store.refused) (records_due ecu store.refused) (handed capacity store)
came false ecu capacity store = record { outbox = Some (record { bytes = []; capacity = capacity; due = []; begun = [] }); frames = 0; bytes = 0; replies = 0; left = 0; messages = 0 }

-- what waits then
abbrev pub left_over : Bool → Stored → Stored
left_over true store = record { ring = emptied store.ring; frames = 0; refused = 0 }
left_over false store = store
