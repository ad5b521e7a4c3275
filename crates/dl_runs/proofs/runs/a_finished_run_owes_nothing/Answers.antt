use Rattle.dl_runs.proofs.Stopped.{run_settled, nobody_open, all_went}
use Rattle.dl_runs.proofs.runs.a_finished_run_owes_nothing.Goals as goal

pub returns-clause-levels : goal.returns-clause-levels
returns-clause-levels c = run_settled

pub returns-clause-nobody : goal.returns-clause-nobody
returns-clause-nobody c = nobody_open

pub returns-clause-closed : goal.returns-clause-closed
returns-clause-closed c = all_went
