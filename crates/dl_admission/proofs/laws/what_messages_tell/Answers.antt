use Rattle.dl_admission.proofs.Told.{messages_tell}
use Rattle.dl_admission.proofs.laws.what_messages_tell.Goals as goal

pub returns : goal.returns
returns c = messages_tell
