use Rattle.dl_laws.proofs.StoredFrames.{stored_short}
use Rattle.dl_laws.proofs.journals.stored_frames_are_short.Goals as goal

pub returns : goal.returns
returns c = stored_short
