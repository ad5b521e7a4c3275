use Rattle.std.proofs.Common.{refl}
use Rattle.dl_loop.proofs.SeenDaemons.{pumps_seen}
use Rattle.dl_loop.proofs.daemon.Daemon.pump.Goals as goal

pub invariant_of-self : goal.invariant_of-self
invariant_of-self g c =
    let made = c.pump_all.ensures in
    c.a_daemon_goes_on.ensures.pumped c.pump_all.result _ _ c.self.invariant (record { visits = made.visits; rest = refl })
    (record { linked = made.linked; heard = made.heard _ _ c.self.invariant.heard; room = made.room; same = made.same })

pub returns : goal.returns
returns g c = pumps_seen g.L.Link.told _ _ _ c.self.view_is c.pump_all.result (record { visits = c.pump_all.ensures.visits; rest = refl })
