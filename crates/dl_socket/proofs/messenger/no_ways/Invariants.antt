use Rattle.std.proofs.Common.{◌≡◌, replicate, None}
use Rattle.dl_socket.proofs.messenger.no_ways.Given as goal

-- so many were made
abbrev pub invariant-loop-made : goal.invariant-loop-made
invariant-loop-made l = l.ways.items ≡ replicate l._made None
