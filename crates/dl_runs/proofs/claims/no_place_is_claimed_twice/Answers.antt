use Rattle.dl_script_model.specs.Steps.{run}
use Rattle.dl_runs.proofs.Founded.{run_founded}
use Rattle.dl_runs.proofs.ClaimOrder.{claims_behind}
use Rattle.dl_runs.proofs.ClaimPlaces.{made_apart, places_apart}
use Rattle.dl_runs.proofs.claims.no_place_is_claimed_twice.Goals as goal

pub returns-clause-claimed : goal.returns-clause-claimed
returns-clause-claimed c = λ setting answers steps. made_apart setting (run setting answers steps) (run_founded setting answers steps)

pub returns-clause-taken : goal.returns-clause-taken
returns-clause-taken c = λ setting answers steps. places_apart setting (run setting answers steps) (run_founded setting answers steps)

pub returns-clause-behind : goal.returns-clause-behind
returns-clause-behind c = λ setting answers steps app apid first number. claims_behind setting (run setting answers steps) (run_founded setting answers steps) first app apid number
