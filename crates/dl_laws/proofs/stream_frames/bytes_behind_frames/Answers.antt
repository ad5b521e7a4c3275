use Rattle.dl_laws.proofs.FramesBehind.{bytes_behind}
use Rattle.dl_laws.proofs.stream_frames.bytes_behind_frames.Goals as goal

pub returns : goal.returns
returns c = bytes_behind
