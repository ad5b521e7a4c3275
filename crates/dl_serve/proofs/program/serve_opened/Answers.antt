use Rattle.std.proofs.Common.{refl, true}
use Rattle.dl_server.specs.State.{seen}
use Rattle.dl_serve.specs.Rounds.{kept}
use Rattle.dl_serve.specs.Told.{told}
use Rattle.dl_serve.proofs.Steps.{opened_closed, opened_nothing}
use Rattle.dl_serve.proofs.program.serve_opened.Goals as goal

pub returns-in-Err : goal.returns-in-Err
returns-in-Err g c =
    opened_nothing g.N.L.Link.told c.args.opened.server c.args.opened.rounds
    (told (g.F.Folder.told c.args.folder.now) (g.N.Net.told c.args.net.now) (g.N.Net.told c.args.users.now) (g.O.Sink.told c.args.out.now))
    (told (g.F.Folder.told c.close.new.folder) (g.N.Net.told c.serve_rounds-full.new.net) (g.N.Net.told c.serve_rounds-full.new.users) (g.O.Sink.told c.args.out.now))
    c.left_early.result.status c.left_early.result.closed c.left_early.ensures.0 c.left_early.ensures.1 refl

pub returns : goal.returns
returns g c =
    opened_closed g.N.L.Link.told c.args.opened.server c.args.opened.rounds c.serve_rounds-full.result
    (told (g.F.Folder.told c.args.folder.now) (g.N.Net.told c.args.net.now) (g.N.Net.told c.args.users.now) (g.O.Sink.told c.args.out.now))
    (told (g.F.Folder.told c.close.new.folder) (g.N.Net.told c.serve_rounds-full.new.net) (g.N.Net.told c.serve_rounds-full.new.users) (g.O.Sink.told c.finish-status.new.out))
    (seen g.N.L.Link.told kept true (g.F.Folder.told c.serve_rounds-full.new.folder) c.serve_rounds-full.new.server) c.now.result c.in-Ok.closed c.count-before.result c.count-now.result
    c.failures_of-failures.result c.finish-status.result c.serve_rounds-full.ensures.served c.in-Ok.ensures c.count-before.ensures c.count-now.ensures c.failures_of-failures.ensures
    c.finish-status.ensures
