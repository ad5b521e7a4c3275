use Rattle.dl_daemon.proofs.DaemonSteps.{went}
use Rattle.dl_daemon.proofs.laws.how_clients_went.Goals as goal

pub returns : goal.returns
returns g c = λ most begun old new why closed first begins has. went g.L.Link.told most begun old new why closed has c.what_links_take.ensures first begins
