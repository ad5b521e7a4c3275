use Rattle.dl_core.proofs.Following.{both_come, one_comes, stays_formed}
use Rattle.dl_core.proofs.message_turns.events_come_in_turn.Goals as goal

pub returns-clause-one : goal.returns-clause-one
returns-clause-one c = one_comes

pub returns-clause-both : goal.returns-clause-both
returns-clause-both c = both_come

pub returns-clause-formed : goal.returns-clause-formed
returns-clause-formed c = stays_formed
