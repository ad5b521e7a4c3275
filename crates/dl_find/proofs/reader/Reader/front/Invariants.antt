use Rattle.std.proofs.Common.{◌-◌}
use Rattle.dl_find.proofs.Refills.{IsFilling}
use Rattle.dl_find.proofs.reader.Reader.front.Given as goal

-- the pieces so far
abbrev pub invariant-loop-self : goal.invariant-loop-self
invariant-loop-self g l = IsFilling l.fn.name (g.F.Folder.told l.fn.folder) (g.F.Folder.told l.folder) l.fn.self l.self

abbrev pub decreases-loop-self : goal.decreases-loop-self
decreases-loop-self g l = 4611686018427387904 - l.self.read
