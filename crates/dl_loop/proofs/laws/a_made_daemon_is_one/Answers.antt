use Rattle.dl_loop.proofs.Daemons.{made_is}
use Rattle.dl_loop.proofs.laws.a_made_daemon_is_one.Goals as goal

pub returns : goal.returns
returns g c = made_is g.L.Link.told
