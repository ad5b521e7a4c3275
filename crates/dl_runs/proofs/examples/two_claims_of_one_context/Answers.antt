use Rattle.std.proofs.Common.{refl}
use Rattle.std.specs.Fmt.{digits}
use Rattle.dl_script_model.specs.Steps.{changes}
use Rattle.dl_runs.proofs.examples.two_claims_of_one_context.Goals as goal

pub returns-clause-report : goal.returns-clause-report
unfolding changes digits
returns-clause-report c = refl
