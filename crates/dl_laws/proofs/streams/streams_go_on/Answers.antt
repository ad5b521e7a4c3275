use Rattle.dl_model.specs.ClientStream.{put}
use Rattle.dl_model.proofs.Lists.{along-one}
use Rattle.dl_laws.proofs.streams.streams_go_on.Goals as goal

pub returns : goal.returns
returns c = λ ecu buffer client. along-one (put ecu buffer client)
