use Rattle.std.proofs.Common.{◌-◌, length}
use Rattle.dl_channel_turns.proofs.OpenClients.{SoFar}
use Rattle.dl_channel_turns.proofs.clients.open_clients.Given as goal

-- the clients up to this number were counted
abbrev pub invariant-loop-client : goal.invariant-loop-client
invariant-loop-client l = SoFar l.fn.hub l.after l.count

abbrev pub decreases-loop-client : goal.decreases-loop-client
decreases-loop-client l = length l.fn.hub.clients - l.after
