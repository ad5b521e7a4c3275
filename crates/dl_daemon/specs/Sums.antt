-- What is counted over several sessions of one process, one after the other.
use Rattle.std.specs.Prelude.{◌+◌, false}
use Rattle.dl_events.specs.declared.closes.Closes.{Closes}
use Rattle.dl_trace.specs.State.{counted}
use Rattle.dl_daemon.specs.declared.figures.ChannelEnds.{ChannelEnds}
use Rattle.dl_daemon.specs.declared.figures.Figures.{Figures}

-- how clients were closed before a session, and in it
abbrev pub closes_behind : Closes → Closes → Closes
closes_behind before now = record {
  left = counted (before.left + now.left);
  broken = counted (before.broken + now.broken);
  slow = counted (before.slow + now.slow);
  malformed = counted (before.malformed + now.malformed);
  too_many = counted (before.too_many + now.too_many);
  no_memory = counted (before.no_memory + now.no_memory);
}

-- how channels ended
abbrev pub ends_behind : ChannelEnds → ChannelEnds → ChannelEnds
ends_behind before now = record {
  left = counted (before.left + now.left);
  broken = counted (before.broken + now.broken);
  bad = counted (before.bad + now.bad);
  slow = counted (before.slow + now.slow);
  no_memory = counted (before.no_memory + now.no_memory);
}

-- All of it: what came and went adds up; what stands, and what is counted by those that outlive a session, is as it is now.
unfoldable pub behind : Figures → Figures → Figures
behind before now = record now {
  clients = counted (before.clients + now.clients);
  closes = closes_behind before.closes now.closes;
  untaken = counted (before.untaken + now.untaken);
  channels = counted (before.channels + now.channels);
  ends = ends_behind before.ends now.ends;
  frames = counted (before.frames + now.frames);
  dropped = counted (before.dropped + now.dropped);
  renewed = counted (before.renewed + now.renewed);
  unstored = counted (before.unstored + now.unstored);
}

-- before the first session
unfoldable pub nothing_counted : Figures
nothing_counted = record {
  clients = 0;
  open_clients = 0;
  closes = record { left = 0; broken = 0; slow = 0; malformed = 0; too_many = 0; no_memory = 0 };
  untaken = 0;
  channels = 0;
  open_channels = 0;
  ends = record { left = 0; broken = 0; bad = 0; slow = 0; no_memory = 0 };
  frames = 0;
  waiting = 0;
  refused = 0;
  dropped = 0;
  client_faults = 0;
  program_faults = 0;
  files = 0;
  bytes = 0;
  renewed = 0;
  taken = 0;
  unstored = 0;
  ended = false;
}
