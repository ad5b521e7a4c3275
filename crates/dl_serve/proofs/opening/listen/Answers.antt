use Rattle.std.proofs.Common.{refl}
use Rattle.dl_serve.proofs.HeardNets.{first_unheard, second}
use Rattle.dl_serve.proofs.opening.listen.Goals as goal

pub returns-in-Ok : goal.returns-in-Ok
returns-in-Ok g c =
    second c.args.port (g.N.Net.told c.args.net.now) (g.N.Net.told c.listen_on.new.net) c.args.user_port (g.N.Net.told c.args.users.now) (g.N.Net.told c.listen_on-in-Ok.new.net) c.listen_on-in-Ok.result
    c.in-Ok.ensures c.listen_on-in-Ok.ensures

pub returns-in-Err : goal.returns-in-Err
returns-in-Err g c =
    first_unheard c.args.port (g.N.Net.told c.args.net.now) (g.N.Net.told c.listen_on.new.net) c.args.user_port (g.N.Net.told c.args.users.now) (g.N.Net.told c.args.users.now) c.in-Err.status c.in-Err.ensures refl
