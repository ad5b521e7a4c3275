use Rattle.dl_laws.proofs.Spellings.{records_tell}
use Rattle.dl_laws.proofs.lengths.overflow_records_tell_their_length.Goals as goal

pub returns : goal.returns
returns c = records_tell
