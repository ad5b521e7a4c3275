use Rattle.dl_model.proofs.LongerJournals.{turn_longer, in_turn_longer}
use Rattle.dl_laws.proofs.journals.turns_go_on.Goals as goal

pub returns-clause-event : goal.returns-clause-event
returns-clause-event c = turn_longer

pub returns-clause-events : goal.returns-clause-events
returns-clause-events c = in_turn_longer
