use Rattle.dl_runs.proofs.Founded.{lines_founded, run_founded}
use Rattle.dl_script_runs.proofs.PresentApps.{claims_present, claims_present_so_far}
use Rattle.dl_script_runs.proofs.laws.claims_of_a_script_are_present.Goals as goal

pub returns-clause-lines : goal.returns-clause-lines
returns-clause-lines c = λ setting answers steps playable. claims_present_so_far setting answers steps playable (lines_founded setting answers steps)

pub returns-clause-whole : goal.returns-clause-whole
returns-clause-whole c = λ setting answers steps playable. claims_present setting answers steps playable (run_founded setting answers steps)
