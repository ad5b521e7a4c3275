use Rattle.dl_daemon.proofs.Keepings.{a_keeping}
use Rattle.dl_daemon.proofs.laws.an_end_is_a_keeping.Goals as goal

pub returns : goal.returns
returns g c = λ said old new err err_now status left ended told. a_keeping g.L.Link.told said old new err err_now status left ended told
