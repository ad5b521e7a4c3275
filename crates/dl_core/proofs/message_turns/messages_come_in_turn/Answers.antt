use Rattle.dl_core.proofs.InTurn.{log_in_turn, lost_in_turn, user_in_turn}
use Rattle.dl_core.proofs.message_turns.messages_come_in_turn.Goals as goal

pub returns-clause-log : goal.returns-clause-log
returns-clause-log c = log_in_turn

pub returns-clause-lost : goal.returns-clause-lost
returns-clause-lost c = lost_in_turn

pub returns-clause-user : goal.returns-clause-user
returns-clause-user c = user_in_turn
