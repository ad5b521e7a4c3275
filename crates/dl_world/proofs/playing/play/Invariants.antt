use Rattle.std.proofs.Common.{take}
use Rattle.dl_core.specs.Files.{Leaves}
use Rattle.dl_world.specs.Follows.{Does}
use Rattle.dl_world.proofs.Lines.{lines}
use Rattle.dl_world.proofs.playing.play.Given as goal

abbrev pub invariant-loop-step : goal.invariant-loop-step
invariant-loop-step g l = record {
  so_far : Does (lines (take l.step-index l.steps)) l.initial.world l.world
      (g.F.Folder.told l.fn.folder) (g.F.Folder.told l.folder);
  leaves : Leaves l.initial.world.core l.world.core
      (g.F.Folder.told l.fn.folder) (g.F.Folder.told l.folder);
}
