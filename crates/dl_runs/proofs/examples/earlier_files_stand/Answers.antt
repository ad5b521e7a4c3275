use Rattle.std.proofs.Common.{refl}
use Rattle.std.specs.Fmt.{digits}
use Rattle.dl_script_model.specs.Steps.{changes}
use Rattle.dl_runs.proofs.examples.earlier_files_stand.Goals as goal

pub returns-clause-two : goal.returns-clause-two
unfolding changes digits
returns-clause-two c = refl

pub returns-clause-nine : goal.returns-clause-nine
unfolding changes digits
returns-clause-nine c = refl

pub returns-clause-none : goal.returns-clause-none
unfolding changes digits
returns-clause-none c = refl
