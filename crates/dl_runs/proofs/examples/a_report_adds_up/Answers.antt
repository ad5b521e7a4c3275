use Rattle.std.proofs.Common.{refl}
use Rattle.std.specs.Fmt.{digits}
use Rattle.dl_script_model.specs.Steps.{changes}
use Rattle.dl_runs.proofs.examples.a_report_adds_up.Goals as goal

pub returns : goal.returns
unfolding changes digits
returns c = refl
