use Rattle.dl_registry.proofs.Following.{change_is_owed, change_is_level, change_follows}
use Rattle.dl_registry.proofs.laws.changes_are_owed.Goals as goal

pub returns-clause-change : goal.returns-clause-change
returns-clause-change c = change_is_owed

pub returns-clause-event : goal.returns-clause-event
returns-clause-event c = change_follows

pub returns-clause-level : goal.returns-clause-level
returns-clause-level c = change_is_level
