use Rattle.std.proofs.Common.{refl, true}
use Rattle.dl_server.specs.State.{seen}
use Rattle.dl_serve.specs.Rounds.{kept}
use Rattle.dl_serve.proofs.MoreRounds.{limits_both, one_more, same_limits, served_some}
use Rattle.dl_serve.proofs.rounds.serve_rounds.Goals as goal

pub loop-round-init : goal.loop-round-init
loop-round-init g c = record { rounds = (refl, refl, refl); server = c.requires.server; limits = same_limits c.args.server.now }

pub loop-round-preserved : goal.loop-round-preserved
loop-round-preserved g c =
    let s = seen g.N.L.Link.told kept true in record {
      rounds = one_more g.N.L.Link.told c.loop-round._round (g.N.Net.told c.args.net.now) (g.N.Net.told c.loop-round.net) (g.N.Net.told c.round.new.net) (g.N.Net.told c.args.users.now)
          (g.N.Net.told c.loop-round.users) (g.N.Net.told c.round.new.users) (s (g.F.Folder.told c.args.folder.now) c.args.server.now) (s (g.F.Folder.told c.loop-round.folder) c.loop-round.server)
          (s (g.F.Folder.told c.round.new.folder) c.round.new.self) c.loop-round.invariant.rounds (c.is_full-full.ensures.room c.if-full.false) c.round.ensures.round.0
          (record { server = c.loop-round.server; folder = g.F.Folder.told c.loop-round.folder; is_server = c.loop-round.invariant.server; is = refl });
      server = c.round.ensures.server;
      limits = limits_both c.args.server.now c.loop-round.server c.round.new.self c.loop-round.invariant.limits c.round.ensures.limits;
    }

pub returns-then-full-clause-served : goal.returns-then-full-clause-served
returns-then-full-clause-served g c =
    let s = seen g.N.L.Link.told kept true in
    served_some g.N.L.Link.told c.args.rounds c.loop-round._round (g.N.Net.told c.args.net.now) (g.N.Net.told c.loop-round.net) (g.N.Net.told c.args.users.now) (g.N.Net.told c.loop-round.users)
    (s (g.F.Folder.told c.args.folder.now) c.args.server.now) (s (g.F.Folder.told c.loop-round.folder) c.loop-round.server) c.loop-round-test.true (c.is_full-full.ensures.full c.if-full.true)
    c.loop-round.invariant.rounds
