use Rattle.dl_laws.proofs.StoredFrames.{stored_admitted}
use Rattle.dl_laws.proofs.journals.what_is_stored_is_admitted.Goals as goal

pub returns : goal.returns
returns c = stored_admitted
