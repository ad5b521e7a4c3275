use Rattle.dl_laws.proofs.Backlogs.{prefix, room, longest, counted, sum_of_counters}
use Rattle.dl_laws.proofs.streams.backlog_accounts.Goals as goal

pub returns-clause-prefix : goal.returns-clause-prefix
returns-clause-prefix c = prefix

pub returns-clause-room : goal.returns-clause-room
returns-clause-room c = room

pub returns-clause-longest : goal.returns-clause-longest
returns-clause-longest c = longest

pub returns-clause-counted : goal.returns-clause-counted
returns-clause-counted c = counted

pub returns-clause-counters : goal.returns-clause-counters
returns-clause-counters c = sum_of_counters
