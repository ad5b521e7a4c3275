use Rattle.std.proofs.Common.{◌≡◌, ◌<◌, true, length, refl, subst, sym, arith}
use Rattle.dl_loop.specs.State.{DaemonState}
use Rattle.dl_loop.proofs.SeenDaemons.{none_noted, one_noted}
use Rattle.dl_loop.proofs.daemon.Daemon.take_losses.Goals as goal

pub invariant_of-self : goal.invariant_of-self
invariant_of-self g c =
    let made = c.report_losses-count.ensures in
    let free : c.self.inside.noted < c.self.inside.calls = omega (arith, c.self.invariant.room.few, c.if-self.false) in
    c.a_daemon_goes_on_taking.ensures.losses c.args.app c.report_losses-count.result (g.F.Folder.told c.args.folder.now) (g.F.Folder.told c.report_losses-count.new.folder) _ _ c.self.invariant
    (subst (λ (d : DaemonState g.row.L.Denot). d.greeted ≡ true) (sym c.self.view_is) c.requires.greeted)
    (subst (λ (d : DaemonState g.row.L.Denot). c.args.app < length d.desk.apps) (sym c.self.view_is) c.requires.app) free
    (record { reports = made.reports; empties = made.empties; desk = made.rest; noted = one_noted c.self.inside.noted c.report_losses-count.result c.if-count-ne0.true; rest = refl })

pub invariant_of-self-else-count-ne0 : goal.invariant_of-self-else-count-ne0
invariant_of-self-else-count-ne0 g c =
    let made = c.report_losses-count.ensures in
    let free : c.self.inside.noted < c.self.inside.calls = omega (arith, c.self.invariant.room.few, c.if-self.false) in
    c.a_daemon_goes_on_taking.ensures.losses c.args.app c.report_losses-count.result (g.F.Folder.told c.args.folder.now) (g.F.Folder.told c.report_losses-count.new.folder) _ _ c.self.invariant
    (subst (λ (d : DaemonState g.row.L.Denot). d.greeted ≡ true) (sym c.self.view_is) c.requires.greeted)
    (subst (λ (d : DaemonState g.row.L.Denot). c.args.app < length d.desk.apps) (sym c.self.view_is) c.requires.app) free
    (record { reports = made.reports; empties = made.empties; desk = made.rest; noted = none_noted c.self.inside.noted c.report_losses-count.result c.if-count-ne0.false; rest = refl })
