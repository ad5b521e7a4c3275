use Rattle.dl_model.proofs.ClientStreams.{fitting-one}
use Rattle.dl_laws.proofs.streams.fitting_after_one_more.Goals as goal

pub returns : goal.returns
returns c = fitting-one
