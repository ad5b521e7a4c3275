use Rattle.dl_model.proofs.ClientStreams.{is_open-one}
use Rattle.dl_laws.proofs.streams.open_after_one_more.Goals as goal

pub returns : goal.returns
returns c = is_open-one
