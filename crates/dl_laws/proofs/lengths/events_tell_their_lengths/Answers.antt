use Rattle.dl_laws.proofs.Traffics.{event_tells, journal_tells, journal_goes_on}
use Rattle.dl_laws.proofs.lengths.events_tell_their_lengths.Goals as goal

pub returns-clause-one : goal.returns-clause-one
returns-clause-one c = event_tells

pub returns-clause-journal : goal.returns-clause-journal
returns-clause-journal c = journal_tells

pub returns-clause-more : goal.returns-clause-more
returns-clause-more c = journal_goes_on
