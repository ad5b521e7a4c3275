-- What a client's link has not taken of its stream: frame by frame, with how many messages each tells of.
use Rattle.std.specs.Prelude.{◌≡◌, ◌≤◌, ◌<◌, ◌*◌, ⊤, ℕ, ◌+◌, ◌-◌, ◌^◌, ◌==◌, ◌&&◌, min, nat_lt, sum_by, List, [], ◌∷◌, ◌++◌, length, map, zero, suc, if◌then◌else◌}
use Rattle.dl_control.specs.Reply.{daemon_apid, daemon_ctid}
use Rattle.dl_message.specs.Frames.{overflow_record}
use Rattle.dl_model.specs.Along.{along}
use Rattle.dl_model.specs.Traffic.{Traffic, Connected, Admitted, Reply, Closed, is_open}
use Rattle.dl_model.specs.Overflow.{counters}
use Rattle.dl_model.specs.Backlog.{waiting, fitting, refused}

-- a frame on its way to a client, and of how many messages it tells
pub record Outgoing : Type 0 where
  pub frame : List ℕ
  pub messages : ℕ

-- an admitted frame tells of one message, a reply of none, and a record of the buffer of as many as it counts
abbrev pub one_message : List ℕ → Outgoing
one_message frame = record { frame = frame; messages = 1 }

abbrev pub no_message : List ℕ → Outgoing
no_message frame = record { frame = frame; messages = 0 }

abbrev pub refusals_told : List ℕ → ℕ → Outgoing
refusals_told ecu counter = record { frame = overflow_record ecu daemon_apid daemon_ctid counter; messages = counter }

-- what one entry puts into a client's stream, after those before it: the frames of `put` of ClientStream
abbrev pub outgoing_at : List ℕ → ℕ → ℕ → List Traffic → Traffic → List Outgoing
outgoing_at ecu buffer client before (Connected other) =
    if other == client then map one_message (fitting buffer (waiting before)) ++ map (refusals_told ecu) (counters (refused buffer (waiting before))) else []
outgoing_at ecu buffer client before (Admitted frame) = if is_open client before then one_message frame ∷ [] else []
outgoing_at ecu buffer client before (Reply other frame) = if (other == client) && is_open client before then no_message frame ∷ [] else []
outgoing_at ecu buffer client before (Closed other) = []

-- the frames of a client's stream, with their messages
abbrev pub outgoing : List ℕ → ℕ → ℕ → List Traffic → List Outgoing
outgoing ecu buffer client traffic = along (outgoing_at ecu buffer client) traffic

-- ---- what is left of them

-- of a frame that is due to a link: how many bytes are left of it, and of how many messages it tells
abbrev pub Due : Type 0
Due = ℕ × ℕ

-- frames of which nothing was taken
abbrev pub all_due : List Outgoing → List Due
all_due frames = map (λ outgoing. (length outgoing.frame, outgoing.messages)) frames

-- what is left when so many bytes more were taken from the front
abbrev pub past : ℕ → List Due → List Due
past zero due = due
past (suc n) [] = []
past (suc n) (first ∷ due) = if nat_lt (suc n) first.0 then (first.0 - suc n, first.1) ∷ due else past (suc n - first.0) due

-- how many bytes were taken of the frame that is first then, where so many of the one that is first were taken before
abbrev pub in_front : ℕ → ℕ → List Due → ℕ
in_front before zero due = before
in_front before (suc n) [] = 0
in_front before (suc n) (first ∷ due) = if nat_lt (suc n) first.0 then before + suc n else in_front 0 (suc n - first.0) due

-- Of how many messages they tell. A sum of 64 bits stops at its top.
abbrev pub messages_in : List Due → ℕ
messages_in due = min (sum_by (λ frame. frame.1) due) (2 ^ 64 - 1)

-- what a link that took so many bytes of a client's stream has not taken of it
abbrev pub untaken : List ℕ → ℕ → ℕ → List Traffic → ℕ → List Due
untaken ecu buffer client traffic taken = past taken (all_due (outgoing ecu buffer client traffic))

-- how many bytes such a link took of the first frame that it has not taken to its last byte
abbrev pub begun_by : List ℕ → ℕ → ℕ → List Traffic → ℕ → ℕ
begun_by ecu buffer client traffic taken = in_front 0 taken (all_due (outgoing ecu buffer client traffic))

-- ---- what a ring keeps to

-- each frame has at least four bytes, and of the first one something is left
abbrev pub AreDue : ℕ → List Due → Type 0
AreDue least [] = ⊤
AreDue least (first ∷ due) = (least ≤ first.0) × AreDue 4 due

-- and no more than 65,535, those that were taken of the first one among them
abbrev pub AreShort : ℕ → List Due → Type 0
AreShort begun [] = begun ≡ 0
AreShort begun (first ∷ due) = (begun + first.0 ≤ 65535) × AreShort 0 due

-- how many bytes are left of them
abbrev pub bytes_due : List Due → ℕ
bytes_due due = sum_by (λ frame. frame.0) due

-- A ring of so many bytes and its frames, for which there are so many places: they have the bytes that wait, and their
-- places suffice for as many as there can be. Of the first frame so many bytes were taken.
pub record IsKept (begun bytes capacity : ℕ) (due : List Due) (places : ℕ) : Type 0 where
  pub large : AreDue 1 due
  pub short : AreShort begun due
  pub all : bytes_due due ≡ bytes
  pub within : bytes ≤ capacity
  pub enough : capacity < 4 * places
