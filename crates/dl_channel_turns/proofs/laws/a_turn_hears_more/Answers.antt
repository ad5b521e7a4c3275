use Rattle.dl_channel_turns.proofs.HeardMore.{hears_more}
use Rattle.dl_channel_turns.proofs.laws.a_turn_hears_more.Goals as goal

pub returns : goal.returns
returns c = hears_more
