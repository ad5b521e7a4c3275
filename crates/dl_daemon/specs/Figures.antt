-- What a daemon counts.
use Rattle.std.specs.Prelude.{ℕ, ◌+◌, ◌-◌, ◌^◌, Bool, true, false, min, count_by, List, [], length, sum_by, Option, Some, None, is_some}
use Rattle.std.specs.Option.{option_map_or}
use Rattle.dl_bytes.specs.declared.outcome.TraceFile.{TraceFile}
use Rattle.dl_channel.specs.declared.outcome.ChannelEnd.{ChannelEnd}
use Rattle.dl_channel.specs.declared.outcome.ChannelEnd.TheVariants as end
use Rattle.dl_events.specs.Closes.{closes_in}
use Rattle.dl_hub.specs.State.{messages_left_by}
use Rattle.dl_rounds.specs.Ready.{open_clients}
use Rattle.dl_server.specs.declared.server.Server.{Server}
use Rattle.dl_trace.specs.State.{Trace, counted}
use Rattle.dl_trace.specs.Steps.{bytes_in}
use Rattle.dl_events.specs.Told.{Told}
use Rattle.dl_daemon.specs.declared.figures.ChannelEnds.{ChannelEnds}
use Rattle.dl_daemon.specs.declared.figures.Figures.{Figures}
use Rattle.dl_daemon.specs.declared.figures.Passed.{Passed}

-- the bytes of trace files; a sum of 64 bits stops at its top
abbrev pub sum_of : List TraceFile → ℕ
sum_of files = min (2 ^ 64 - 1) (sum_by bytes_in files)

-- the trace files that stand
abbrev pub files_of : Option Trace → List TraceFile
files_of None = []
files_of (Some trace) = trace.state.files

-- nothing more is stored
abbrev pub has_ended : Option Trace → Bool
has_ended None = false
has_ended (Some trace) = is_some trace.state.end

-- ---- why channels ended

abbrev pub is_left : Option ChannelEnd → Bool
is_left (Some end.Left) = true
is_left other = false

abbrev pub is_broken : Option ChannelEnd → Bool
is_broken (Some end.Broken) = true
is_broken other = false

abbrev pub is_bad : Option ChannelEnd → Bool
is_bad (Some (end.Bad fault)) = true
is_bad other = false

abbrev pub is_slow : Option ChannelEnd → Bool
is_slow (Some end.Slow) = true
is_slow other = false

abbrev pub is_no_memory : Option ChannelEnd → Bool
is_no_memory (Some end.NoMemory) = true
is_no_memory other = false

-- how many of these have ended for such a cause, as a count of 64 bits has it
abbrev pub ended_for : (Option ChannelEnd → Bool) → List (Option ChannelEnd) → ℕ
ended_for is ends = min (count_by is ends) (2 ^ 64 - 1)

-- for each cause
abbrev pub ends_in : List (Option ChannelEnd) → ChannelEnds
ends_in ends = record {
  left = ended_for is_left ends;
  broken = ended_for is_broken ends;
  bad = ended_for is_bad ends;
  slow = ended_for is_slow ends;
  no_memory = ended_for is_no_memory ends;
}

-- ---- all of it

-- what it counts
abbrev pub figures_of : {L : Type 0} → Server Told L → Passed → Figures
figures_of s passed = record {
  clients = length s.clients.links;
  open_clients = open_clients s.core.hub;
  closes = closes_in s.journal.events;
  untaken = messages_left_by s.core.hub.clients;
  channels = length s.programs.links;
  open_channels = length s.channels.inboxes;
  ends = ends_in s.ends.items;
  frames = s.core.hub.admitted;
  waiting = length s.core.hub.backlog;
  refused = s.core.hub.refused;
  dropped = s.dropped;
  client_faults = passed.client_faults;
  program_faults = passed.program_faults;
  files = length (files_of s.core.trace);
  bytes = sum_of (files_of s.core.trace);
  renewed = passed.renewed;
  taken = passed.taken;
  unstored = counted (passed.unstored + option_map_or (λ trace. trace.unstored) s.core.trace 0);
  ended = has_ended s.core.trace;
}
