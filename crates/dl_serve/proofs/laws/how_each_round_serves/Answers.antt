use Rattle.dl_serve.proofs.Services.{serving_serves}
use Rattle.dl_serve.proofs.laws.how_each_round_serves.Goals as goal

pub returns : goal.returns
returns g c = λ begun old new full closed first begins has.
    let later = c.a_round_is_its_events.ensures in
    let stays = c.why_clients_stay.ensures in
    let shuts = c.links_of_gone_clients_are_shut.ensures in
    serving_serves g.L.Link.told later.heard later.pumped later.closed c.a_pump_is_its_events.ensures stays.read stays.sent shuts.parted shuts.closed begun old new full closed first begins has
