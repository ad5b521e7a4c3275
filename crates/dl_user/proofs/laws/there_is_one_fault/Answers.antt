use Rattle.dl_user.proofs.Cuts.{fault_once}
use Rattle.dl_user.proofs.laws.there_is_one_fault.Goals as goal

pub returns : goal.returns
returns c = fault_once
