-- What a client is sent: the backlog that is due to it, then all that is admitted while it listens, and its replies.
use Rattle.std.specs.Prelude.{ℕ, ◌==◌, ◌&&◌, List, [], ◌∷◌, map, if◌then◌else◌}
use Rattle.dl_events.specs.declared.event.Event.{Event}
use Rattle.dl_events.specs.declared.event.Event.TheVariants as event
use Rattle.dl_model.specs.Along.{along}
use Rattle.dl_model.specs.Traffic.{Traffic, Connected, Admitted, Reply, Closed, is_open}
use Rattle.dl_model.specs.Backlog.{waiting, due_backlog}
use Rattle.dl_model.specs.Frames.{FrameSource, frames_of}

-- ---- over traffic

-- what one entry puts into a client's stream, after those before it
abbrev pub put : List ℕ → ℕ → ℕ → List Traffic → Traffic → List (List ℕ)
-- at its coming, what waited
put ecu buffer client before (Connected other) = if other == client then due_backlog ecu buffer (waiting before) else []
-- while it is open, each admitted frame and its own replies
put ecu buffer client before (Admitted frame) = if is_open client before then frame ∷ [] else []
put ecu buffer client before (Reply other frame) = if (other == client) && is_open client before then frame ∷ [] else []
put ecu buffer client before (Closed other) = []

-- the frames of a client's stream
abbrev pub sent : List ℕ → ℕ → ℕ → List Traffic → List (List ℕ)
sent ecu buffer client traffic = along (put ecu buffer client) traffic

-- ---- over events

-- what an event is for the clients, after those before it
abbrev pub traffic_of : FrameSource → List Event → Event → List Traffic
traffic_of source before (event.Connect client) = Connected client ∷ []
traffic_of source before (event.Request client frame done) = Reply client (source.reply before frame done) ∷ []
traffic_of source before (event.Close client why) = Closed client ∷ []
traffic_of source before e = map Admitted (frames_of source e)

-- the traffic of a journal
abbrev pub traffic : FrameSource → List Event → List Traffic
traffic source events = along (traffic_of source) events

-- the frames of a client's stream
abbrev pub stream : FrameSource → ℕ → ℕ → List Event → List (List ℕ)
stream source buffer client events = sent source.ecu buffer client (traffic source events)
