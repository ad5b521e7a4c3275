use Rattle.dl_script_model.specs.Steps.{run}
use Rattle.dl_runs.proofs.Founded.{run_founded}
use Rattle.dl_runs.proofs.RegisteredClaims.{taken_registered}
use Rattle.dl_runs.proofs.WellFormed.{run_stands}
use Rattle.dl_runs.proofs.claims.claims_are_registered_as_they_are_taken.Goals as goal

pub returns : goal.returns
returns c = λ setting answers steps taken parts n.
    taken_registered setting (run setting answers steps) (run_founded setting answers steps) (run_stands setting answers steps)
    taken.before taken.after taken.claim taken.moment parts n.there n.below n.version n.free
