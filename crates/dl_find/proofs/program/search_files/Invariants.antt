use Rattle.std.proofs.Common.{length, ◌-◌}
use Rattle.dl_find.proofs.Gathering.{AreSearched}
use Rattle.dl_find.proofs.program.search_files.Given as goal

-- the files so far
abbrev pub invariant-loop-file : goal.invariant-loop-file
invariant-loop-file g l = AreSearched l.fn.question l.fn.names (g.F.Folder.told l.fn.folder) (g.F.Folder.told l.folder) l.file l.search

abbrev pub decreases-loop-file : goal.decreases-loop-file
decreases-loop-file g l = length l.names - l.file
