use Rattle.dl_hub.proofs.Calls.{waits-all}
use Rattle.dl_hub.proofs.hub.Hub.keep.Goals as goal

pub returns-clause-adds : goal.returns-clause-adds
returns-clause-adds c =
    rw c.admit.ensures
    (waits-all c.self.inside.ecu c.self.inside.store c.self.inside.limit c.self.inside.clients.items c.self.inside.admitted c.self.inside.free.items c.self.invariant.0
    c.args.self.now c.args.frame.now c.self.view_is c.requires.closed c.requires.size c.requires.few).1
