use Rattle.dl_laws.proofs.Traffics.{sent_tell}
use Rattle.dl_laws.proofs.lengths.streams_tell_their_lengths.Goals as goal

pub returns : goal.returns
returns c = sent_tell
