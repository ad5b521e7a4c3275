use Rattle.dl_settling.proofs.EndedClients.{all_ended}
use Rattle.dl_settling.proofs.laws.how_clients_ended.Goals as goal

pub returns : goal.returns
returns g c = λ run taken dropped old account links folder folder_now settles gives is shown.
    all_ended g.L.Link.told dropped old account links folder folder_now c.gone_clients_show_why.ensures.closed c.a_round_is_its_events.ensures.closed settles run gives taken is shown
