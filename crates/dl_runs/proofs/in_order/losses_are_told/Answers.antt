use Rattle.dl_runs.proofs.RunLaws.{losses_told}
use Rattle.dl_runs.proofs.in_order.losses_are_told.Goals as goal

pub returns : goal.returns
returns c = losses_told
