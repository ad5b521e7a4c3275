use Rattle.std.proofs.Common.{false}
use Rattle.dl_server.specs.State.{seen}
use Rattle.dl_daemon.specs.Outside.{outside}
use Rattle.dl_daemon.specs.Rounds.{noted}
use Rattle.dl_daemon.proofs.Steps.{opened_closed, opened_nothing}
use Rattle.dl_daemon.proofs.program.keep_opened.Goals as goal

pub returns : goal.returns
returns g c =
    opened_nothing g.N.L.Link.told c.args.opened.renewal.conf c.args.opened.renewal.tries c.args.opened.server (outside (g.F.Folder.told c.args.folder.now) (g.N.Net.told c.args.net.now) (g.N.Net.told c.args.users.now) (g.W.Watch.watched c.args.watch.now))
    (outside (g.F.Folder.told c.close.new.folder) (g.N.Net.told c.go_round-why.new.net) (g.N.Net.told c.go_round-why.new.users) (g.W.Watch.watched c.go_round-why.new.watch)) c.left_early.result.status c.left_early.result.left c.left_early.ensures.0
    c.left_early.ensures.1

pub returns-in-Ok : goal.returns-in-Ok
returns-in-Ok g c =
    opened_closed g.N.L.Link.told c.args.opened.renewal.conf c.args.opened.renewal.tries c.args.opened.server c.go_round-why.result (outside (g.F.Folder.told c.args.folder.now) (g.N.Net.told c.args.net.now) (g.N.Net.told c.args.users.now) (g.W.Watch.watched c.args.watch.now))
    (outside (g.F.Folder.told c.close.new.folder) (g.N.Net.told c.go_round-why.new.net) (g.N.Net.told c.go_round-why.new.users) (g.W.Watch.watched c.go_round-why.new.watch))
    (seen g.N.L.Link.told noted false (g.F.Folder.told c.go_round-why.new.folder) c.go_round-why.new.server) c.now.result c.in-Ok.left c.status_of.result c.status_of.ensures c.go_round-why.ensures.rounds
    c.in-Ok.ensures
