use Rattle.dl_daemon.proofs.DaemonSteps.{sent}
use Rattle.dl_daemon.proofs.laws.what_programs_sent_is_admitted.Goals as goal

pub returns : goal.returns
returns g c = λ most begun old new why closed has tells. sent g.L.Link.told most begun old new why closed has tells
