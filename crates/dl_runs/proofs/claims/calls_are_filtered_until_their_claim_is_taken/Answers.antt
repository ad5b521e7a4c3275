use Rattle.dl_script_model.specs.Steps.{run}
use Rattle.dl_runs.proofs.Founded.{run_founded}
use Rattle.dl_runs.proofs.EarlyCalls.{early_filtered}
use Rattle.dl_runs.proofs.WellFormed.{run_stands}
use Rattle.dl_runs.proofs.claims.calls_are_filtered_until_their_claim_is_taken.Goals as goal

pub returns : goal.returns
returns c = λ setting answers steps. early_filtered setting (run setting answers steps) (run_founded setting answers steps) (run_stands setting answers steps)
