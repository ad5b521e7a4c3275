use Rattle.dl_script_runs.proofs.HeldLevels.{held_is}
use Rattle.dl_script_runs.proofs.laws.calls_hold_the_levels_of_their_ids.Goals as goal

pub returns : goal.returns
returns c = λ setting done call loaded. held_is setting done call loaded
