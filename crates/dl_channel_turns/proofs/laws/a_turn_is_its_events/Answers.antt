use Rattle.dl_channel_turns.proofs.LaterSides.{turn_later}
use Rattle.dl_channel_turns.proofs.laws.a_turn_is_its_events.Goals as goal

pub returns : goal.returns
returns c = turn_later
