use Rattle.dl_laws.proofs.Spellings.{message_tells, whole_tells}
use Rattle.dl_laws.proofs.lengths.messages_tell_their_length.Goals as goal

pub returns-clause-spelled : goal.returns-clause-spelled
returns-clause-spelled c = message_tells

pub returns-clause-whole : goal.returns-clause-whole
returns-clause-whole c = whole_tells
