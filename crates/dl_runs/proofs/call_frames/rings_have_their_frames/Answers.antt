use Rattle.dl_runs.proofs.OneCall.{given_in_rings}
use Rattle.dl_runs.proofs.call_frames.rings_have_their_frames.Goals as goal

pub returns : goal.returns
returns c = given_in_rings
