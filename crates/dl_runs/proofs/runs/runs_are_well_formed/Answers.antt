use Rattle.dl_runs.proofs.WellFormed.{lines_well_formed, run_well_formed}
use Rattle.dl_runs.proofs.runs.runs_are_well_formed.Goals as goal

pub returns-clause-lines : goal.returns-clause-lines
returns-clause-lines c = lines_well_formed

pub returns-clause-whole : goal.returns-clause-whole
returns-clause-whole c = run_well_formed
