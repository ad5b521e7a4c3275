use Rattle.dl_account.proofs.Accounted.{accounted}
use Rattle.dl_account.proofs.laws.an_account_is_accounted.Goals as goal

pub returns : goal.returns
returns c = λ events s is whole j. accounted events s is whole j
