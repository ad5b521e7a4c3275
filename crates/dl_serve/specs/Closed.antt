-- What is left of a server that closed.
use Rattle.std.specs.Prelude.{◌≡◌, ◌||◌, ℕ, Bool, true, false, List, [], length, map, take, Option, Some, None}
use Rattle.std.specs.List.{list_any}
use Rattle.dl_bytes.specs.declared.outcome.Backlog.{Backlog}
use Rattle.dl_channel.specs.declared.outcome.ChannelEnd.{ChannelEnd}
use Rattle.dl_channel.specs.declared.outcome.ChannelEnd.TheVariants as end
use Rattle.dl_ending.specs.Ending.{unheard}
use Rattle.dl_hub.specs.State.{Hub}
use Rattle.dl_model.specs.Report.{report}
use Rattle.dl_bytes.specs.declared.moment.Moment.{Moment}
use Rattle.dl_outside.specs.Told.{FolderTold, LinkTold}
use Rattle.dl_server.specs.Closing.{IsClosed}
use Rattle.dl_server.specs.State.{State}
use Rattle.dl_settling.specs.Ends.{ends_of}
use Rattle.dl_startup.specs.Failures.{unserved}
use Rattle.dl_turns.specs.Gone.{TellTheEnd}
use Rattle.dl_startup.specs.declared.failures.Failures.{Failures}
use Rattle.dl_bytes.specs.declared.outcome.TraceEnd.{TraceEnd}
use Rattle.dl_bytes.specs.declared.outcome.TraceEnd.TheVariants as trace
use Rattle.dl_serve.specs.Faults.{folder_failed, nets_failed}
use Rattle.dl_serve.specs.declared.faults.Faults.{Faults}
use Rattle.dl_serve.specs.declared.closed.Closed.{Closed}

-- what waits for the next client
abbrev pub backlog_of : Hub → Backlog
backlog_of hub = record { frames = hub.frames; bytes = length hub.backlog; refused = hub.refused }

-- The journal, what stands at the end beside it, the backlog, the links, and of each channel that came why it has ended, are what the closing left.
pub record IsLeft {L : Type 0} (told : L → LinkTold) (s : State) (closed : Closed L) : Type 0 where
  pub events : s.events ≡ Some closed.events.events
  pub state : closed.state ≡ ends_of s.core s.dropped
  pub backlog : closed.backlog ≡ backlog_of s.core.hub
  pub clients : map told closed.clients.links ≡ s.clients
  pub users : map told closed.users.links ≡ s.programs
  pub ends : closed.ends ≡ take (length s.programs) s.ends
  pub memory : closed.memory ≡ s.wanted

-- it closed, and this is left of it, beside what the folder tells then
abbrev pub HasClosedTo : {L : Type 0} → (L → LinkTold) → Moment → State → FolderTold → Closed L → Type 0
HasClosedTo told moment old folder closed = (final : State) × (final.folder ≡ folder) × IsClosed (TellTheEnd told) moment old final × IsLeft told final closed

-- ---- what went wrong

-- a channel ended for want of memory
abbrev pub is_starved : Option ChannelEnd → Bool
is_starved (Some end.NoMemory) = true
is_starved other = false

abbrev pub starved : List (Option ChannelEnd) → Bool
starved ends = list_any is_starved ends

-- no frame found a name for its trace file
abbrev pub is_spent : Option TraceEnd → Bool
is_spent (Some trace.Spent) = true
is_spent other = false

-- memory was wanting for the trace
abbrev pub is_short : Option TraceEnd → Bool
is_short (Some trace.NoMemory) = true
is_short other = false

-- memory was wanted: for a link, a channel or in the journal, for a Store, a Reset or a client's request, by a program, or for the trace
abbrev pub has_wanted : {L : Type 0} → Closed L → Bool
has_wanted closed =
    closed.memory || unserved closed.events.events || unheard closed.events.events || starved closed.ends || is_short closed.state.trace.end

-- What went wrong while serving: a net or the folder failed, as their counts say, a frame had no name for its trace file, the journal was full, or memory
-- was wanted. A trace that failed shows in the folder's count.
abbrev pub failures_of : {L : Type 0} → Closed L → Faults → Faults → Bool → Failures
failures_of closed before now full = record {
  net = nets_failed before now;
  folder = folder_failed before now;
  names_spent = is_spent closed.state.trace.end;
  journal_full = full;
  output = false;
  memory = has_wanted closed;
}

-- the report: no call of this process is in it
abbrev pub text_of : {L : Type 0} → Closed L → List ℕ
text_of closed = report [] closed.events.events [] closed.state closed.backlog None
