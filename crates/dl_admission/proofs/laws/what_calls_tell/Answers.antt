use Rattle.dl_admission.proofs.Told.{calls_tell}
use Rattle.dl_admission.proofs.laws.what_calls_tell.Goals as goal

pub returns : goal.returns
returns c = calls_tell
