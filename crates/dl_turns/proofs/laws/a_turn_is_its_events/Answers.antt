use Rattle.dl_turns.proofs.LaterStages.{stage_turn}
use Rattle.dl_turns.proofs.laws.a_turn_is_its_events.Goals as goal

pub returns : goal.returns
returns c = stage_turn
