use Rattle.dl_core.specs.Files.{Leaves}
use Rattle.dl_world.specs.Follows.{Does}
use Rattle.dl_world.proofs.Turning.{from}
use Rattle.dl_world.proofs.Drains.{takes}
use Rattle.dl_world.proofs.world.World.drain.Given as goal

abbrev pub invariant-loop-next : goal.invariant-loop-next
invariant-loop-next g l = record {
  so_far : Does (from 0 l._next (takes l.app)) l.fn.self l.self
      (g.F.Folder.told l.fn.folder) (g.F.Folder.told l.folder);
  leaves : Leaves l.fn.self.core l.self.core
      (g.F.Folder.told l.fn.folder) (g.F.Folder.told l.folder);
}
