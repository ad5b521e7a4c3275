use Rattle.std.proofs.Common.{refl}
use Rattle.std.specs.Fmt.{digits}
use Rattle.dl_script_model.specs.Steps.{changes}
use Rattle.dl_runs.proofs.examples.trace_files_rotate.Goals as goal

pub returns : goal.returns
unfolding changes digits
returns c = refl
