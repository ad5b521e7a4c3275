use Rattle.dl_serve.proofs.HeardNets.{one_refused}
use Rattle.dl_serve.proofs.opening.listen_on.Goals as goal

pub returns-in-Err : goal.returns-in-Err
returns-in-Err g c =
    one_refused c.args.port (g.N.Net.told c.args.net.now) (g.N.Net.told c.listen.new.self) c.in-Err.fault c.refused.result c.refused.ensures c.in-Err.ensures.cause c.in-Err.ensures.port
