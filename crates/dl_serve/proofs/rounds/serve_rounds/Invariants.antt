use Rattle.std.proofs.Common.{true}
use Rattle.dl_server.specs.Server.{IsServer, SameLimits}
use Rattle.dl_server.specs.State.{seen}
use Rattle.dl_serve.specs.Rounds.{AreRounds, kept}
use Rattle.dl_serve.proofs.rounds.serve_rounds.Given as goal

-- so many rounds were made, none of which began with a full journal
abbrev pub invariant-loop-round : goal.invariant-loop-round
invariant-loop-round g l = record {
  rounds : AreRounds g.N.L.Link.told l._round (g.N.Net.told l.fn.net) (g.N.Net.told l.net) (g.N.Net.told l.fn.users) (g.N.Net.told l.users)
      (seen g.N.L.Link.told kept true (g.F.Folder.told l.fn.folder) l.fn.server) (seen g.N.L.Link.told kept true (g.F.Folder.told l.folder) l.server);
  server : IsServer g.N.L.Link.told l.server;
  limits : SameLimits l.fn.server l.server;
}
