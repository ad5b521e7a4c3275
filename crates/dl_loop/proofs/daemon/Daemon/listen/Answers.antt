use Rattle.std.proofs.Common.{refl}
use Rattle.dl_loop.proofs.SeenDaemons.{hears_seen}
use Rattle.dl_loop.proofs.daemon.Daemon.listen.Goals as goal

pub invariant_of-self : goal.invariant_of-self
invariant_of-self g c =
    let made = c.listen_all.ensures in
    let n = c.listen_all.new in
    c.a_daemon_goes_on.ensures.heard c.listen_all.result (g.F.Folder.told c.args.folder.now) (g.F.Folder.told n.folder) _ _ c.self.invariant
    (record { visits = made.visits; desk = made.rest; rest = refl }) (record { linked = made.linked; heard = made.heard; room = made.room; same = made.same })

pub returns : goal.returns
returns g c =
    let made = c.listen_all.ensures in
    hears_seen g.L.Link.told _ _ _ c.self.view_is c.listen_all.result (g.F.Folder.told c.args.folder.now) (g.F.Folder.told c.listen_all.new.folder)
    (record { visits = made.visits; desk = made.rest; rest = refl })
