use Rattle.std.proofs.Common.{List, length}
use Rattle.dl_bytes.specs.Claim.{Claimed}
use Rattle.dl_writer.proofs.Announcing.{IsAnnouncing}
use Rattle.dl_writer.proofs.writer.Writer.announce.Given as goal

-- the claims so far went into the ring
abbrev pub invariant-loop : goal.invariant-loop
invariant-loop g l = (done : List Claimed) × IsAnnouncing l.fn.self done l.self

abbrev pub decreases-loop : goal.decreases-loop
decreases-loop g l = length l.self.waiting
