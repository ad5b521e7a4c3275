use Rattle.std.proofs.Common.{◌≡◌, ◌++◌}
use Rattle.std.specs.Vec.Iter.{into_iter_items}
use Rattle.dl_core.specs.Files.{Leaves}
use Rattle.dl_world.specs.Follows.{Does}
use Rattle.dl_world.proofs.Receiving.{ask_all}
use Rattle.dl_world.proofs.world.World.ask_each.Given as goal

-- the requests so far were asked
abbrev pub invariant-loop-frame : goal.invariant-loop-frame
invariant-loop-frame g l = record {
  all : l.yielded ++ into_iter_items l.frame-iterator ≡ l.fn.requests.items;
  does : Does (ask_all l.fn.client l.yielded) l.fn.self l.self (g.F.Folder.told l.fn.folder) (g.F.Folder.told l.folder);
  leaves : Leaves l.fn.self.core l.self.core (g.F.Folder.told l.fn.folder) (g.F.Folder.told l.folder);
}
