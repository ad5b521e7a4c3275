use Rattle.std.proofs.Common.{◌≡◌, take, Some}
use Rattle.std.specs.Prelude.{IfSome}
use Rattle.dl_outside.specs.Folder.{Files}
use Rattle.dl_trace.specs.Steps.{names_of, without}
use Rattle.dl_trace.proofs.files.remove_all.Given as goal

abbrev pub invariant-loop-file : goal.invariant-loop-file
invariant-loop-file g l =
    IfSome (g.F.Folder.told l.fn.folder).files (λ (folder : Files). (g.F.Folder.told l.folder).files ≡ Some (without folder (names_of (take l.file-index l.files))))
    × ((g.F.Folder.told l.folder).faults ≡ (g.F.Folder.told l.fn.folder).faults) × ((g.F.Folder.told l.folder).appends ≡ (g.F.Folder.told l.fn.folder).appends)
