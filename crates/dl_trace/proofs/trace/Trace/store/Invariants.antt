use Rattle.std.proofs.Common.{◌≡◌, length}
use Rattle.dl_trace.specs.Batch.{parted}
use Rattle.dl_trace.specs.InFolder.{ChangesTraceFiles}
use Rattle.dl_trace.proofs.Looping.{SoFar}
use Rattle.dl_trace.proofs.trace.Trace.store.Given as goal

abbrev pub invariant-loop-sizes : goal.invariant-loop-sizes
invariant-loop-sizes g l =
    SoFar (parted l.fn.sizes l.fn.bytes) l.fn.self l.self (g.F.Folder.told l.fn.folder).files (g.F.Folder.told l.folder).files l.sizes l.bytes (g.F.Folder.told l.fn.folder).appends (g.F.Folder.told l.folder).appends
    × ((g.F.Folder.told l.folder).faults ≡ (g.F.Folder.told l.fn.folder).faults)
    × ChangesTraceFiles l.fn.self.directory (g.F.Folder.told l.fn.folder).files (g.F.Folder.told l.folder).files

abbrev pub decreases-loop-sizes : goal.decreases-loop-sizes
decreases-loop-sizes g l = length l.sizes
