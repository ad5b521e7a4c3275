use Rattle.dl_model.specs.ClientStream.{traffic_of}
use Rattle.dl_model.proofs.ClientStreams.{traffic_admits}
use Rattle.dl_model.proofs.Lists.{along-one}
use Rattle.dl_laws.proofs.streams.traffic_of_journals.Goals as goal

pub returns-clause-admits : goal.returns-clause-admits
returns-clause-admits c = traffic_admits

pub returns-clause-one_more : goal.returns-clause-one_more
returns-clause-one_more c = λ source. along-one (traffic_of source)
