use Rattle.std.proofs.Common.{subst}
use Rattle.dl_loop.specs.Daemon.{IsDaemon}
use Rattle.dl_loop.specs.State.{DaemonState}
use Rattle.dl_loop.proofs.daemon.Daemon.is_daemon.Goals as goal

pub returns : goal.returns
returns g c = subst (λ (d : DaemonState g.row.L.Denot). IsDaemon g.L.Link.told d) c.self.view_is c.self.invariant
