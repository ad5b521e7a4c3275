use Rattle.std.proofs.Common.{◌≡◌, ◌++◌}
use Rattle.std.specs.Vec.Iter.{into_iter_items}
use Rattle.dl_core.specs.Files.{Leaves}
use Rattle.dl_world.specs.Follows.{Does}
use Rattle.dl_world.proofs.Telling.{tell_all}
use Rattle.dl_world.proofs.world.World.tell_each.Given as goal

-- the messages so far were told
abbrev pub invariant-loop-msg : goal.invariant-loop-msg
invariant-loop-msg g l = record {
  all : l.yielded ++ into_iter_items l.msg-iterator ≡ l.fn.messages.items;
  does : Does (tell_all l.fn.channel l.yielded) l.fn.self l.self (g.F.Folder.told l.fn.folder) (g.F.Folder.told l.folder);
  leaves : Leaves l.fn.self.core l.self.core (g.F.Folder.told l.fn.folder) (g.F.Folder.told l.folder);
}
