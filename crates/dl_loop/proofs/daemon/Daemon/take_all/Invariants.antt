use Rattle.std.proofs.Common.{◌≡◌, ◌+◌, ◌-◌, ◌≤◌, true, length}
use Rattle.dl_outside.specs.Told.{NetTold}
use Rattle.dl_loop.specs.Later.{GoesRound}
use Rattle.dl_loop.specs.Scene.{Scene, scene}
use Rattle.dl_loop.specs.Takes.{TakesTurns, has_taken}
use Rattle.dl_loop.proofs.daemon.Daemon.take_all.Given as goal

-- who gives the rest their turns, has given all their turns
abbrev pub invariant-loop-app : goal.invariant-loop-app
invariant-loop-app g l = record {
  behind : (end : Scene g.row.L.Denot) → TakesTurns l.app (length l.fn.self.desk.apps - l.app) (scene l.self (g.F.Folder.told l.folder)) end
      → TakesTurns 0 (length l.fn.self.desk.apps) (scene l.fn.self (g.F.Folder.told l.fn.folder)) end;
  goes : (net : NetTold g.row.L.Denot) → GoesRound net net (scene l.fn.self (g.F.Folder.told l.fn.folder)) (scene l.self (g.F.Folder.told l.folder));
  apps : l.self.desk.apps ≡ l.fn.self.desk.apps;
  greeted : l.self.greeted ≡ true;
  on : l.fn.self.noted + l.fn.self.claimed ≤ l.self.noted + l.self.claimed;
  moved : l.moved ≡ has_taken l.fn.self l.self;
}
