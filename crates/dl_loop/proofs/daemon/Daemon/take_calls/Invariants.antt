use Rattle.std.proofs.Common.{◌≡◌, ◌+◌, ◌-◌, ◌≤◌, true, List, cond}
use Rattle.dl_outside.specs.Told.{NetTold}
use Rattle.dl_taking.specs.declared.taking.Got.{Got}
use Rattle.dl_loop.specs.Later.{GoesRound}
use Rattle.dl_loop.specs.Scene.{Scene, scene}
use Rattle.dl_loop.specs.Takes.{TakesCalls, TakesOn}
use Rattle.dl_loop.proofs.daemon.Daemon.take_calls.Given as goal

-- who makes the rest of the takes, has made all of them
abbrev pub invariant-loop-empty : goal.invariant-loop-empty
invariant-loop-empty g l = record {
  behind : (end : Scene g.row.L.Denot) (gots : List Got) → TakesOn l.fn.app l.done l.empty gots (scene l.self (g.F.Folder.told l.folder)) end
      → TakesCalls l.fn.app (scene l.fn.self (g.F.Folder.told l.fn.folder)) end;
  goes : (net : NetTold g.row.L.Denot) → GoesRound net net (scene l.fn.self (g.F.Folder.told l.fn.folder)) (scene l.self (g.F.Folder.told l.folder));
  apps : l.self.desk.apps ≡ l.fn.self.desk.apps;
  greeted : l.self.greeted ≡ true;
  few : l.done ≤ 64;
  count : l.self.noted + l.self.claimed ≡ l.fn.self.noted + l.fn.self.claimed + l.done;
}

-- each time some take gives, or the ring is found empty
abbrev pub decreases-loop-empty : goal.decreases-loop-empty
decreases-loop-empty g l = 64 - l.done + cond l.empty 0 1
