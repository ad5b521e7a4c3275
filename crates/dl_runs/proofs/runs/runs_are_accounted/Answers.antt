use Rattle.dl_script_model.specs.Steps.{after_lines}
use Rattle.dl_runs.proofs.Founded.{lines_founded}
use Rattle.dl_runs.proofs.RightRuns.{lines_right}
use Rattle.dl_runs.proofs.AccountRuns.{accounted_so_far}
use Rattle.dl_runs.proofs.AccountWhole.{run_accounted}
use Rattle.dl_runs.proofs.Finished.{all_recorded}
use Rattle.dl_runs.proofs.runs.runs_are_accounted.Goals as goal

pub returns-clause-so_far : goal.returns-clause-so_far
returns-clause-so_far c = λ setting answers steps. accounted_so_far setting (after_lines setting answers steps) (lines_founded setting answers steps) (lines_right setting answers steps)

pub returns-clause-whole : goal.returns-clause-whole
returns-clause-whole c = run_accounted

pub returns-clause-finished : goal.returns-clause-finished
returns-clause-finished c = all_recorded
