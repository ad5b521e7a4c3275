use Rattle.dl_serve.proofs.WentServers.{all_went}
use Rattle.dl_serve.proofs.laws.how_clients_went.Goals as goal

pub returns : goal.returns
returns g c = λ begun old new full closed first begins has. all_went g.L.Link.told c.what_links_take.ensures begun old new full closed first begins has
