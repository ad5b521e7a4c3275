use Rattle.dl_settling.proofs.StoppedEvents.{is_stop}
use Rattle.dl_settling.proofs.laws.a_stop_is_its_events.Goals as goal

pub returns : goal.returns
returns g c = λ dropped old account links folder folder_now. is_stop g.L.Link.told dropped old account links folder folder_now c.clients_are_as_noted.ensures.closed
