use Rattle.dl_laws.proofs.JournalStreams.{waits_since, due_and_refused, refused_on}
use Rattle.dl_laws.proofs.journals.the_backlog_accounts_for_itself.Goals as goal

pub returns-clause-since : goal.returns-clause-since
returns-clause-since c = waits_since

pub returns-clause-due : goal.returns-clause-due
returns-clause-due c = due_and_refused

pub returns-clause-refused_on : goal.returns-clause-refused_on
returns-clause-refused_on c = refused_on
