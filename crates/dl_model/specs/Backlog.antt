-- The backlog: frames that wait while nobody listens, as many as a buffer keeps.
use Rattle.std.specs.Prelude.{ℕ, ◌+◌, ◌-◌, nat_le, List, [], ◌∷◌, ◌++◌, length, sum_by, if◌then◌else◌}
use Rattle.std.specs.List.{after_last}
use Rattle.dl_bytes.specs.declared.outcome.Backlog.{Backlog}
use Rattle.dl_control.specs.Reply.{daemon_apid, daemon_ctid}
use Rattle.dl_model.specs.Overflow.{overflow_frames}
use Rattle.dl_model.specs.Traffic.{Traffic, is_going, admitted_in, is_any_open}

-- the bytes of frames together
abbrev pub size_of : List (List ℕ) → ℕ
size_of frames = sum_by length frames

-- the most bytes that wait for a client that is there: those of a whole backlog, and 131,072 more
abbrev pub outbox_limit : ℕ → ℕ
outbox_limit buffer = buffer + 131072

-- What waits for the next client: where none is open, the frames admitted since the last one went.
abbrev pub waiting : List Traffic → List (List ℕ)
waiting traffic = if is_any_open traffic then [] else admitted_in (after_last is_going traffic)

-- What a buffer keeps of frames: the longest prefix with at most so many bytes. The first frame that doesn't fit is
-- refused, and each one behind it, whatever its size.
abbrev pub fitting : ℕ → List (List ℕ) → List (List ℕ)
fitting limit [] = []
fitting limit (frame ∷ frames) =
    if nat_le (length frame) limit then frame ∷ fitting (limit - length frame) frames else []

-- how many frames it refuses
abbrev pub refused : ℕ → List (List ℕ) → ℕ
refused limit frames = length frames - length (fitting limit frames)

-- What a client is handed that finds frames waiting: those that the buffer kept, and a report of how many it refused.
abbrev pub due_backlog : List ℕ → ℕ → List (List ℕ) → List (List ℕ)
due_backlog ecu buffer frames =
    fitting buffer frames ++ overflow_frames ecu daemon_apid daemon_ctid (refused buffer frames)

-- what is left of the backlog after this traffic: the frames that wait, their bytes, and how many were refused
abbrev pub left : ℕ → List Traffic → Backlog
left buffer traffic = record {
  frames = length (fitting buffer (waiting traffic));
  bytes = size_of (fitting buffer (waiting traffic));
  refused = refused buffer (waiting traffic);
}
