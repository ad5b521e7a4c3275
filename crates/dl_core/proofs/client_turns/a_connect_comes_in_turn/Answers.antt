use Rattle.dl_core.proofs.Connecting.{connect_in_turn}
use Rattle.dl_core.proofs.client_turns.a_connect_comes_in_turn.Goals as goal

pub returns : goal.returns
returns c = connect_in_turn
