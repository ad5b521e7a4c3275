use Rattle.dl_settling.proofs.WentClients.{streams_told}
use Rattle.dl_settling.proofs.laws.ends_tell_streams.Goals as goal

pub returns : goal.returns
returns c = streams_told
