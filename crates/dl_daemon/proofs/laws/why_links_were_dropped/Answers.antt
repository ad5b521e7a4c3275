use Rattle.dl_daemon.proofs.DaemonSteps.{dropped_so}
use Rattle.dl_daemon.proofs.laws.why_links_were_dropped.Goals as goal

pub returns : goal.returns
returns g c = λ begun old new why closed has. dropped_so g.L.Link.told begun old new why closed has
