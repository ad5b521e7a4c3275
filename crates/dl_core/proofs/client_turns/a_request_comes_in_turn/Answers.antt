use Rattle.dl_core.proofs.Asking.{request_in_turn}
use Rattle.dl_core.proofs.client_turns.a_request_comes_in_turn.Goals as goal

pub returns : goal.returns
returns c = request_in_turn
