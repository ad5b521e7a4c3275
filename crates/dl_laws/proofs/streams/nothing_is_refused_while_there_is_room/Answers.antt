use Rattle.dl_laws.proofs.Backlogs.{all_fit, none_refused, all_due}
use Rattle.dl_laws.proofs.streams.nothing_is_refused_while_there_is_room.Goals as goal

pub returns-clause-kept : goal.returns-clause-kept
returns-clause-kept c = all_fit

pub returns-clause-none : goal.returns-clause-none
returns-clause-none c = none_refused

pub returns-clause-due : goal.returns-clause-due
returns-clause-due c = all_due
