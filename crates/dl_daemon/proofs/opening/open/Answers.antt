use Rattle.std.proofs.Common.{refl}
use Rattle.dl_daemon.proofs.OpenedDaemons.{opened_so}
use Rattle.dl_daemon.proofs.opening.open.Goals as goal

pub returns : goal.returns
returns g c =
    opened_so g.L.Link.told c.a_made_server_is_one.ensures c.args.limits c.args.begun _ c.in_ok-core.core c.make-journal.result c.in_ok-channels.channels c.in_ok-core.ensures.value c.in_ok-core.ensures.after
    c.make-journal.ensures c.in_ok-channels.ensures c.in_ok-server.ensures refl refl c.make-2.ensures
