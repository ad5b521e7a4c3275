use Rattle.dl_hub.proofs.Untaken.{frames_outgoing}
use Rattle.dl_hub.proofs.laws.frames_of_a_stream.Goals as goal

pub returns : goal.returns
returns c = frames_outgoing
