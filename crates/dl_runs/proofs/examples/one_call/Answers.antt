use Rattle.std.proofs.Common.{refl}
use Rattle.std.specs.Fmt.{digits}
use Rattle.dl_script_model.specs.Steps.{changes}
use Rattle.dl_runs.proofs.examples.one_call.Goals as goal

pub returns-clause-report : goal.returns-clause-report
unfolding changes digits
returns-clause-report c = refl
