use Rattle.dl_script_model.specs.Steps.{drain}
use Rattle.dl_core.specs.Files.{Leaves}
use Rattle.dl_world.specs.Follows.{Does}
use Rattle.dl_world.proofs.Turning.{from}
use Rattle.dl_world.proofs.world.World.drain_all.Given as goal

abbrev pub invariant-loop-app : goal.invariant-loop-app
invariant-loop-app g l = record {
  so_far : Does (from 0 l.app (λ app setting answers. drain setting app)) l.fn.self l.self
      (g.F.Folder.told l.fn.folder) (g.F.Folder.told l.folder);
  leaves : Leaves l.fn.self.core l.self.core
      (g.F.Folder.told l.fn.folder) (g.F.Folder.told l.folder);
}
