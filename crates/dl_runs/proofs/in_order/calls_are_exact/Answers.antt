use Rattle.dl_runs.proofs.RunLaws.{calls_exact}
use Rattle.dl_runs.proofs.in_order.calls_are_exact.Goals as goal

pub returns : goal.returns
returns c = calls_exact
