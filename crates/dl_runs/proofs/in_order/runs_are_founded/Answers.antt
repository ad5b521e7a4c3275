use Rattle.dl_runs.proofs.Founded.{lines_founded, run_founded}
use Rattle.dl_runs.proofs.in_order.runs_are_founded.Goals as goal

pub returns-clause-lines : goal.returns-clause-lines
returns-clause-lines c = lines_founded

pub returns-clause-whole : goal.returns-clause-whole
returns-clause-whole c = run_founded
