use Rattle.dl_core.proofs.Beginnings.{goes_on_with}
use Rattle.dl_core.proofs.laws.a_new_trace_goes_on.Goals as goal

pub returns : goal.returns
returns c = goes_on_with
