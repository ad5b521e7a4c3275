use Rattle.dl_daemon.proofs.DaemonSteps.{ended_so}
use Rattle.dl_daemon.proofs.laws.how_programs_ended.Goals as goal

pub returns : goal.returns
returns g c = λ most begun old new why closed has. ended_so g.L.Link.told most begun old new why closed has
