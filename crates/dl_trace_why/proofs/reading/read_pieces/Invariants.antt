use Rattle.std.proofs.Common.{◌-◌}
use Rattle.dl_trace_why.proofs.Pieces.{AreReading}
use Rattle.dl_trace_why.proofs.reading.read_pieces.Given as goal

-- the pieces so far
abbrev pub invariant-loop-place : goal.invariant-loop-place
invariant-loop-place g l = AreReading l.fn.name (g.F.Folder.told l.fn.folder) (g.F.Folder.told l.folder) l.fn.follower l.follower l.place

abbrev pub decreases-loop-place : goal.decreases-loop-place
decreases-loop-place g l = 4611686018427387904 - l.place
