use Rattle.dl_loop.proofs.StoppedDaemons.{may_stop}
use Rattle.dl_loop.proofs.stop_laws.a_daemon_may_stop.Goals as goal

pub returns : goal.returns
returns g c = may_stop g.L.Link.told
