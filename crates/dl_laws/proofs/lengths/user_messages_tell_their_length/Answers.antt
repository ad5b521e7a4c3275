use Rattle.dl_laws.proofs.Spellings.{user_tells, begins_fit, heard_fit}
use Rattle.dl_laws.proofs.lengths.user_messages_tell_their_length.Goals as goal

pub returns-clause-fit : goal.returns-clause-fit
returns-clause-fit c = user_tells

pub returns-clause-begins : goal.returns-clause-begins
returns-clause-begins c = begins_fit

pub returns-clause-heard : goal.returns-clause-heard
returns-clause-heard c = heard_fit
