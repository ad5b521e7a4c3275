use Rattle.dl_account.proofs.Resting.{drained_stays}
use Rattle.dl_account.proofs.laws.drained_stays.Goals as goal

pub returns : goal.returns
returns c = drained_stays
