use Rattle.dl_server.proofs.MadeServers.{made_server}
use Rattle.dl_server.proofs.laws.a_made_server_is_one.Goals as goal

pub returns : goal.returns
returns g c = made_server g.L.Link.told
