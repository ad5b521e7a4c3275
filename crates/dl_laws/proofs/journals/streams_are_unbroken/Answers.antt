use Rattle.dl_laws.proofs.JournalStreams.{closed_stream, open_stream, one_part, last_part}
use Rattle.dl_laws.proofs.journals.streams_are_unbroken.Goals as goal

pub returns-clause-closed : goal.returns-clause-closed
returns-clause-closed c = λ setting source buffer stay. closed_stream setting source buffer stay.client stay.cause stay.before stay.middle stay.after

pub returns-clause-open_yet : goal.returns-clause-open_yet
returns-clause-open_yet c = open_stream

pub returns-clause-one_part : goal.returns-clause-one_part
returns-clause-one_part c = λ source stay. one_part source stay.client stay.cause stay.before stay.middle stay.after

pub returns-clause-last_part : goal.returns-clause-last_part
returns-clause-last_part c = last_part
