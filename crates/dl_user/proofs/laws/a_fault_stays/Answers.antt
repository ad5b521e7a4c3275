use Rattle.dl_user.proofs.Cuts.{fault_stays}
use Rattle.dl_user.proofs.laws.a_fault_stays.Goals as goal

pub returns : goal.returns
returns c = fault_stays
