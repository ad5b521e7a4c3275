use Rattle.dl_laws.proofs.Behind.{Goes}
use Rattle.dl_laws.proofs.cut.add_copies.Given as goal
use Rattle.std.proofs.Common.{length}

abbrev pub invariant-loop-rest : goal.invariant-loop-rest
invariant-loop-rest l = Goes l.fn.bytes l.fn.frames.items l.frames.items l.rest

abbrev pub decreases-loop-rest : goal.decreases-loop-rest
decreases-loop-rest l = length l.rest
