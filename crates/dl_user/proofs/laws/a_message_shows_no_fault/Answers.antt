use Rattle.dl_user.proofs.Cuts.{no_fault_there}
use Rattle.dl_user.proofs.laws.a_message_shows_no_fault.Goals as goal

pub returns : goal.returns
returns c = no_fault_there
