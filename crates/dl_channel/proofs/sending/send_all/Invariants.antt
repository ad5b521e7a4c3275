use Rattle.std.proofs.Common.{◌≡◌, length}
use Rattle.dl_channel.proofs.SentSoFar.{SoFar}
use Rattle.dl_channel.proofs.sending.send_all.Given as goal

-- the front of what waited is sent
abbrev pub invariant-loop-piece : goal.invariant-loop-piece
invariant-loop-piece g l = record {
  sent : SoFar l.fn.outbox.items l.outbox.items (g.L.Link.told l.fn.link) (g.L.Link.told l.link);
  capacity : l.outbox.capacity ≡ l.fn.outbox.capacity;
}

-- each piece makes it shorter
abbrev pub decreases-loop-piece : goal.decreases-loop-piece
decreases-loop-piece g l = length l.outbox.items
