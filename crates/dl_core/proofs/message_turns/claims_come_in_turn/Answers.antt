use Rattle.dl_core.proofs.InTurn.{claim_in_turn}
use Rattle.dl_core.proofs.message_turns.claims_come_in_turn.Goals as goal

pub returns : goal.returns
returns c = claim_in_turn
