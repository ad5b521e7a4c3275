use Rattle.dl_world_calls.proofs.Declaring.{number_is}
use Rattle.dl_world_calls.proofs.laws.numbers_are_those_of_the_marks.Goals as goal

pub returns : goal.returns
returns c done calls apid is = number_is done calls apid is.apps_are
