use Rattle.dl_runs.proofs.Owed.{owed_first}
use Rattle.dl_runs.proofs.in_order.level_events_in_order.Goals as goal

pub returns : goal.returns
returns c = owed_first
