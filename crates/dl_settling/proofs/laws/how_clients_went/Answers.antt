use Rattle.dl_settling.proofs.WentClients.{all_went}
use Rattle.dl_settling.proofs.laws.how_clients_went.Goals as goal

pub returns : goal.returns
returns g c = λ run taken dropped old account links folder folder_now settles bytes gives noted.
    all_went g.L.Link.told dropped old account links folder folder_now c.clients_are_as_noted.ensures.closed settles bytes run gives taken noted
