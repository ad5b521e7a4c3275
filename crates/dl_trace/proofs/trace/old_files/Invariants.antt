use Rattle.std.proofs.Common.{◌≡◌, take}
use Rattle.dl_outside.specs.Outside.{Stays}
use Rattle.dl_trace.specs.Found.{AreFound}
use Rattle.dl_trace.proofs.trace.old_files.Given as goal

abbrev pub invariant-loop-name : goal.invariant-loop-name
invariant-loop-name g l =
    AreFound l.directory (g.F.Folder.told l.fn.folder).files (take l.name-index l.names) l.files.items l.last
    × Stays (g.F.Folder.told l.fn.folder).files (g.F.Folder.told l.folder).files
    × ((g.F.Folder.told l.folder).faults ≡ (g.F.Folder.told l.fn.folder).faults) × ((g.F.Folder.told l.folder).changes ≡ (g.F.Folder.told l.fn.folder).changes) × ((g.F.Folder.told l.folder).appends ≡ (g.F.Folder.told l.fn.folder).appends)
