use Rattle.dl_model.proofs.ClientStreams.{any_open}
use Rattle.dl_laws.proofs.streams.somebody_is_open.Goals as goal

pub returns-clause-one : goal.returns-clause-one
returns-clause-one c = λ traffic. (any_open traffic).0

pub returns-clause-any : goal.returns-clause-any
returns-clause-any c = λ traffic. (any_open traffic).1
