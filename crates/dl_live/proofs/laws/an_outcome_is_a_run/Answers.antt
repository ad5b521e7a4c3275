use Rattle.dl_live.proofs.Runs.{a_run}
use Rattle.dl_live.proofs.laws.an_outcome_is_a_run.Goals as goal

pub returns : goal.returns
returns g c = λ said old new err err_now status account links stored outcome others told. a_run g.L.Link.told said old new err err_now status account stored links outcome others told
