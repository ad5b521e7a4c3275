use Rattle.dl_runs.proofs.LevelLaws.{filtered_above, queued_within, lost_within, entries}
use Rattle.dl_runs.proofs.accounts.levels_filter.Goals as goal

pub returns-clause-filtered : goal.returns-clause-filtered
returns-clause-filtered c = filtered_above

pub returns-clause-queued : goal.returns-clause-queued
returns-clause-queued c = queued_within

pub returns-clause-lost : goal.returns-clause-lost
returns-clause-lost c = lost_within

pub returns-clause-entries : goal.returns-clause-entries
returns-clause-entries c = entries
