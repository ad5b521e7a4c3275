use Rattle.dl_channel_turns.proofs.HeardMore.{nothing_heard}
use Rattle.dl_channel_turns.proofs.laws.nothing_is_heard_at_first.Goals as goal

pub returns : goal.returns
returns c = nothing_heard
