use Rattle.std.proofs.Common.{◌≡◌, false}
use Rattle.dl_server.specs.Server.{IsServer}
use Rattle.dl_server.specs.State.{seen}
use Rattle.dl_daemon.specs.Rounds.{noted}
use Rattle.dl_daemon.proofs.MoreRounds.{SomeRounds}
use Rattle.dl_daemon.proofs.rounds.go_round.Given as goal

-- some rounds were made, each of which began with room
abbrev pub invariant-loop-round : goal.invariant-loop-round
invariant-loop-round g l = record {
  rounds : SomeRounds g.N.L.Link.told l.fn.renewal.conf l.fn.renewal.tries l.renewal.tries (g.N.Net.told l.fn.net) (g.N.Net.told l.net) (g.N.Net.told l.fn.users) (g.N.Net.told l.users)
      (g.W.Watch.watched l.fn.watch) (g.W.Watch.watched l.watch) (seen g.N.L.Link.told noted false (g.F.Folder.told l.fn.folder) l.fn.server) (seen g.N.L.Link.told noted false (g.F.Folder.told l.folder) l.server);
  server : IsServer g.N.L.Link.told l.server;
  conf : l.renewal.conf ≡ l.fn.renewal.conf;
}
