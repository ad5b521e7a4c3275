use Rattle.dl_receive.proofs.StreamCuts.{received-frames}
use Rattle.dl_receive.proofs.laws.frames_print.Goals as goal

pub returns : goal.returns
returns c = received-frames
