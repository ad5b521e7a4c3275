use Rattle.dl_daemon.proofs.KeptServices.{keeping_serves}
use Rattle.dl_daemon.proofs.laws.how_each_round_serves.Goals as goal

pub returns : goal.returns
returns g c = λ most begun old new why closed first begins has.
    let later = c.a_round_is_its_events.ensures in
    let stays = c.why_clients_stay.ensures in
    let shuts = c.links_of_gone_clients_are_shut.ensures in
    keeping_serves g.L.Link.told later.heard later.pumped later.closed c.a_pump_is_its_events.ensures stays.read stays.sent shuts.parted shuts.closed most begun old new why closed first begins has
