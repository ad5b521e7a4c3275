use Rattle.dl_world_calls.proofs.Changing.{next_tells}
use Rattle.dl_world_calls.proofs.laws.the_next_is_the_first_left.Goals as goal

pub returns : goal.returns
returns c = next_tells
