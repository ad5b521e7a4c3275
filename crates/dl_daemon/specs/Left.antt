-- What is left of a daemon that closed.
use Rattle.std.specs.Prelude.{◌≡◌, length, take}
use Rattle.dl_bytes.specs.declared.moment.Moment.{Moment}
use Rattle.dl_outside.specs.Told.{FolderTold, LinkTold}
use Rattle.dl_serve.specs.Closed.{HasClosedTo, backlog_of}
use Rattle.dl_serve.specs.declared.closed.Closed.{Closed}
use Rattle.dl_server.specs.State.{State}
use Rattle.dl_server.specs.declared.server.Server.{Server}
use Rattle.dl_settling.specs.Ends.{ends_of}
use Rattle.dl_events.specs.Told.{Told}
use Rattle.dl_daemon.specs.declared.figures.Passed.{Passed}
use Rattle.dl_daemon.specs.declared.left.Left.{Left}
use Rattle.dl_daemon.specs.Figures.{figures_of}

-- what a server that closed leaves, were its events kept
abbrev pub closed_of : {L : Type 0} → Server Told L → Closed L
closed_of s = record {
  events = record { events = s.journal.events; spare = 0 };
  state = ends_of s.core s.dropped;
  backlog = backlog_of s.core.hub;
  clients = s.clients;
  users = s.programs;
  ends = take (length s.programs.links) s.ends.items;
  memory = s.wanted;
}

-- What is left is that of a server that closed: the events that were noted, the trace, the links, why each channel has ended, and what the server counted.
pub record IsOf {L : Type 0} (closed : Closed L) (left : Left L) : Type 0 where
  pub server : Server Told L
  pub its : closed ≡ closed_of server
  pub passed : Passed
  pub figures : left.figures ≡ figures_of server passed
  pub events : closed.events.events ≡ left.journal.events
  pub trace : closed.state.trace ≡ left.trace
  pub clients : closed.clients ≡ left.clients
  pub users : closed.users ≡ left.users
  pub ends : closed.ends ≡ left.ends

-- it closed, and this is left, beside what the folder tells then
abbrev pub ClosesTo : {L : Type 0} → (L → LinkTold) → Moment → State → FolderTold → Left L → Type 0
ClosesTo {L} told moment old folder left = (closed : Closed L) × IsOf closed left × HasClosedTo told moment old folder closed
