use Rattle.std.proofs.Common.{◌≡◌, ◌+◌, ◌-◌, ◌*◌, ◌<◌, ◌≤◌, false, length, IfSome}
use Rattle.dl_loop.specs.Coming.{HasWaited, HaveCome}
use Rattle.dl_loop.specs.Later.{GoesRound}
use Rattle.dl_loop.specs.Scene.{scene}
use Rattle.dl_live.proofs.gathering.gather.Given as goal

-- so many came, no accept has failed or wanted memory, and where somebody was waited for in vain all came that waited
abbrev pub invariant-loop-came : goal.invariant-loop-came
invariant-loop-came g l = record {
  goes : GoesRound (g.N.Net.told l.fn.net) (g.N.Net.told l.net) (scene l.fn.daemon (g.F.Folder.told l.fn.folder)) (scene l.daemon (g.F.Folder.told l.folder));
  come : HaveCome l.came (g.N.Net.told l.fn.net) (g.N.Net.told l.net) l.fn.daemon l.daemon;
  failed : l.daemon.failed ≡ false;
  wanted : l.daemon.wanted ≡ false;
  waited : HasWaited g.N.L.Link.told l.nobody (g.N.Net.told l.net) (scene l.daemon (g.F.Folder.told l.folder));
  few : l.nobody ≤ 1000;
  nobody : 0 < l.nobody → IfSome (g.N.Net.told l.fn.net).waiting (λ links. length links ≤ l.came);
}

abbrev pub decreases-loop-came : goal.decreases-loop-came
decreases-loop-came g l = (l.launched - l.came) * 1001 + (1000 - l.nobody)
