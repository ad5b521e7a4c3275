use Rattle.dl_model.proofs.Rotation.{length-concat}
use Rattle.dl_laws.proofs.stream_frames.bytes_of_frames.Goals as goal

pub returns : goal.returns
returns c = length-concat
