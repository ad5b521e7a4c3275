use Rattle.std.proofs.Common.{length}
use Rattle.dl_writer.proofs.ToldClaims.{IsKeeping}
use Rattle.dl_writer.proofs.book.announce_into.Given as goal

-- the claims so far went into the ring, and are kept
abbrev pub invariant-loop-claim : goal.invariant-loop-claim
invariant-loop-claim g l = IsKeeping l.fn.writer l.fn.kept l.writer l.kept

abbrev pub decreases-loop-claim : goal.decreases-loop-claim
decreases-loop-claim g l = length l.writer.waiting
