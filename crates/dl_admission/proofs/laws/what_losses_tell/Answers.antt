use Rattle.dl_admission.proofs.Told.{losses_tell}
use Rattle.dl_admission.proofs.laws.what_losses_tell.Goals as goal

pub returns : goal.returns
returns c = losses_tell
