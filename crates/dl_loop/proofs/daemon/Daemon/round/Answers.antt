use Rattle.std.proofs.Common.{refl}
use Rattle.dl_loop.specs.Scene.{scene}
use Rattle.dl_loop.proofs.GoneRounds.{goes_both}
use Rattle.dl_loop.proofs.Parted.{goes_parts}
use Rattle.dl_loop.proofs.TurnsHad.{round_had}
use Rattle.dl_loop.proofs.daemon.Daemon.round.Goals as goal

pub returns-clause-round : goal.returns-clause-round
returns-clause-round g c = record {
  served = scene c.serve_all-served.new.self (g.F.Folder.told c.serve_all-served.new.folder);
  serves = c.serve_all-served.ensures.serves.0;
  parts = c.part.ensures;
  folder = refl;
}

pub returns-clause-turns : goal.returns-clause-turns
returns-clause-turns g c =
    let folder = g.F.Folder.told c.serve_all-served.new.folder in
    round_had g.L.Link.told c.serve_all-served.result.answer (g.N.Net.told c.args.net.now) (g.N.Net.told c.serve_all-served.new.net)
    (scene c.args.self.now (g.F.Folder.told c.args.folder.now)) (scene c.part.new.self folder)
    (record { served = scene c.serve_all-served.new.self folder; serves = c.serve_all-served.ensures.serves.0; parts = c.part.ensures; folder = refl })

pub returns-clause-goes : goal.returns-clause-goes
returns-clause-goes g c =
    let net = g.N.Net.told c.serve_all-served.new.net in
    let folder = g.F.Folder.told c.serve_all-served.new.folder in
    goes_both _ net net _ (scene c.serve_all-served.new.self folder) _ c.serve_all-served.ensures.goes
    (goes_parts g.L.Link.told net folder c.serve_all-served.new.self c.part.new.self c.part.ensures)
