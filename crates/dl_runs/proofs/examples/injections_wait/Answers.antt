use Rattle.std.proofs.Common.{refl}
use Rattle.dl_control.specs.Reading.{request_of, injection_of, body_at}
use Rattle.dl_script_model.specs.Steps.{changes}
use Rattle.dl_runs.proofs.examples.injections_wait.Goals as goal

pub returns-clause-full : goal.returns-clause-full
unfolding changes request_of injection_of body_at
returns-clause-full c = refl

pub returns-clause-taken : goal.returns-clause-taken
unfolding changes request_of injection_of body_at
returns-clause-taken c = refl
