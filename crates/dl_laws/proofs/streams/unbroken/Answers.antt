use Rattle.dl_model.proofs.ClientStreams.{unbroken}
use Rattle.dl_laws.proofs.streams.unbroken.Goals as goal

pub returns : goal.returns
returns c = λ ecu buffer client before middle after once. unbroken ecu buffer client before middle after once.none_before once.none_within once.none_after
