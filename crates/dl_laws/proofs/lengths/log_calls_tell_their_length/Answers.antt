use Rattle.dl_laws.proofs.Spellings.{log_tells}
use Rattle.dl_laws.proofs.lengths.log_calls_tell_their_length.Goals as goal

pub returns : goal.returns
returns c = log_tells
