use Rattle.dl_loop.specs.Scene.{scene}
use Rattle.dl_live.specs.Playing.{Rounds, TellsWanted}
use Rattle.dl_live.proofs.workers.rounds.Given as goal

abbrev pub invariant-loop-round : goal.invariant-loop-round
invariant-loop-round g l =
    Rounds (g.N.Net.told l.fn.net) (g.N.Net.told l.net) (scene l.fn.daemon (g.F.Folder.told l.fn.folder)) (scene l.daemon (g.F.Folder.told l.folder))
    × TellsWanted l.wanted (scene l.fn.daemon (g.F.Folder.told l.fn.folder)) (scene l.daemon (g.F.Folder.told l.folder))
