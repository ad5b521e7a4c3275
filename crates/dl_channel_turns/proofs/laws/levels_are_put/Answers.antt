use Rattle.dl_channel_turns.proofs.PutLevels.{levels_put}
use Rattle.dl_channel_turns.proofs.laws.levels_are_put.Goals as goal

pub returns : goal.returns
returns c = levels_put
