-- When a session of a daemon ends, so that the next one begins in the same process.
use Rattle.std.specs.Prelude.{ℕ, ◌+◌, ◌-◌, ◌/◌, ◌==◌, ◌&&◌, ◌||◌, not, nat_le, Bool, length}
use Rattle.dl_events.specs.Told.{Told}
use Rattle.dl_rounds.specs.Ready.{open_clients}
use Rattle.dl_server.specs.declared.server.Server.{Server}
use Rattle.dl_trace.specs.State.{counted}
use Rattle.dl_daemon.specs.Figures.{has_ended}
use Rattle.dl_daemon.specs.declared.limits.Limits.{Limits}
use Rattle.dl_daemon.specs.declared.session.Numbers.{Numbers}

-- which numbers are used, and who and what is there
abbrev pub numbers_of : {L : Type 0} → Server Told L → Numbers
numbers_of s = record {
  clients = length s.clients.links;
  channels = length s.programs.links;
  open_clients = open_clients s.core.hub;
  open_channels = length s.channels.inboxes;
  waiting = counted (s.core.hub.frames + s.core.hub.refused);
  has_ended = has_ended s.core.trace;
}

-- nobody is there, and nothing would be lost
abbrev pub is_quiet : Numbers → Bool
is_quiet n = (n.open_clients == 0) && (n.open_channels == 0) && (n.waiting == 0) && not n.has_ended

-- something waits for a client, and none is there
abbrev pub waits : Numbers → Bool
waits n = (n.open_clients == 0) && not (n.waiting == 0)

-- less than an eighth is left of so many numbers, of which so many are used
abbrev pub is_scarce : ℕ → ℕ → Bool
is_scarce limit used = nat_le (limit - used + 1) (limit / 8)

-- one is left, or none
abbrev pub is_last : ℕ → ℕ → Bool
is_last limit used = nat_le limit (used + 1)

-- few are left, of clients or of programs
abbrev pub are_scarce : Limits → Numbers → Bool
are_scarce most n = is_scarce most.clients n.clients || is_scarce most.channels n.channels

-- A session ends where few numbers are left and nothing is lost by it, and in any case where one number is left of programs, or of clients: the last one of a
-- client stays for one that takes what waits.
abbrev pub ends : Limits → Numbers → Bool
ends most n =
    is_last most.channels n.channels || nat_le most.clients n.clients || (is_last most.clients n.clients && not (waits n)) || (are_scarce most n && is_quiet n)
