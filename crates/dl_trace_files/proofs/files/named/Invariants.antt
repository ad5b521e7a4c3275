use Rattle.std.proofs.Common.{map, take}
use Rattle.dl_trace_files.proofs.Naming.{SoFar}
use Rattle.dl_trace_files.proofs.files.named.Given as goal

-- the names so far
abbrev pub invariant-loop-name : goal.invariant-loop-name
invariant-loop-name g l = SoFar (g.F.Folder.told l.initial.folder) (g.F.Folder.told l.folder) l.all.items (map (λ name. name.now) (take l.name-index l.names))
