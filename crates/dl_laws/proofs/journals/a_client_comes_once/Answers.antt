use Rattle.dl_laws.proofs.ClientStays.{stays_once}
use Rattle.dl_laws.proofs.journals.a_client_comes_once.Goals as goal

pub returns : goal.returns
returns c = λ setting source stay. stays_once setting source stay.client stay.cause stay.before stay.middle stay.after
