use Rattle.dl_laws.proofs.LevelsInForce.{in_force}
use Rattle.dl_laws.proofs.journals.levels_are_in_force.Goals as goal

pub returns : goal.returns
returns c = in_force
