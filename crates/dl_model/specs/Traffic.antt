-- What passes between the daemon and its clients, in order: who comes and goes, what is admitted, what is replied.
use Rattle.std.specs.Prelude.{ℕ, ◌==◌, Bool, true, false, List, Option, Some, None, if◌then◌else◌}
use Rattle.std.specs.List.{list_any, filter_map}
use Rattle.std.specs.Option.{option_map_or}
use Rattle.dl_model.specs.Along.{last_that}

-- a client connects, a frame is admitted, a client is sent a reply, a client's connection ends
pub data Traffic : Type 0 where
  Connected : ℕ → Traffic
  Admitted : List ℕ → Traffic
  Reply : ℕ → List ℕ → Traffic
  Closed : ℕ → Traffic

-- ---- what an entry is, each case by its own line

abbrev pub is_coming : Traffic → Bool
is_coming (Connected client) = true
is_coming _ = false

abbrev pub is_going : Traffic → Bool
is_going (Closed client) = true
is_going _ = false

-- it is the coming or the going of this client
abbrev pub comes_or_goes : ℕ → Traffic → Bool
comes_or_goes client (Connected other) = other == client
comes_or_goes client (Closed other) = other == client
comes_or_goes client _ = false

abbrev pub comer_of : Traffic → Option ℕ
comer_of (Connected client) = Some client
comer_of _ = None

abbrev pub frame_of : Traffic → Option (List ℕ)
frame_of (Admitted frame) = Some frame
frame_of _ = None

-- what is meant for a client that listens: each admitted frame, and its own replies
abbrev pub meant_for : ℕ → Traffic → Option (List ℕ)
meant_for client (Admitted frame) = Some frame
meant_for client (Reply other frame) = if other == client then Some frame else None
meant_for client _ = None

-- ---- what the traffic so far says

-- the clients that came, in order
abbrev pub clients : List Traffic → List ℕ
clients traffic = filter_map comer_of traffic

-- the frames that were admitted, in order
abbrev pub admitted_in : List Traffic → List (List ℕ)
admitted_in traffic = filter_map frame_of traffic

-- a client is open: it came, and has not gone since
abbrev pub is_open : ℕ → List Traffic → Bool
is_open client traffic = option_map_or is_coming (last_that (comes_or_goes client) traffic) false

-- a client is open, whichever
abbrev pub is_any_open : List Traffic → Bool
is_any_open traffic = list_any (λ client. is_open client traffic) (clients traffic)
