use Rattle.dl_core.proofs.InTurn.{level_in_turn}
use Rattle.dl_core.proofs.message_turns.levels_come_in_turn.Goals as goal

pub returns : goal.returns
returns c = level_in_turn
