use Rattle.dl_runs.proofs.OneCall.{one_call}
use Rattle.dl_runs.proofs.call_frames.numbers_name_calls.Goals as goal

pub returns : goal.returns
returns c = one_call
