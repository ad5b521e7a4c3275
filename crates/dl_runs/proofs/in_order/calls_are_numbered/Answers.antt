use Rattle.dl_runs.proofs.RunCalls.{calls_numbered}
use Rattle.dl_runs.proofs.in_order.calls_are_numbered.Goals as goal

pub returns : goal.returns
returns c = calls_numbered
