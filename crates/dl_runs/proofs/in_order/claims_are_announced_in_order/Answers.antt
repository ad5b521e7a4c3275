use Rattle.dl_runs.proofs.Announcing.{announced_first}
use Rattle.dl_runs.proofs.in_order.claims_are_announced_in_order.Goals as goal

pub returns : goal.returns
returns c = announced_first
