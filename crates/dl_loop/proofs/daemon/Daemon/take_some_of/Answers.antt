use Rattle.std.proofs.Common.{◌≡◌, ◌+◌, ◌<◌, ◌≤◌, true, length, refl, ap, subst, sym, ◌∙◌}
use Rattle.dl_loop.specs.Limits.{claim_limit}
use Rattle.dl_loop.specs.State.{DaemonState}
use Rattle.dl_loop.proofs.SeenDaemons.{as_bit, some_seen}
use Rattle.dl_loop.proofs.daemon.Daemon.take_some_of.Goals as goal

pub invariant_of-self : goal.invariant_of-self
invariant_of-self g c =
    let made = c.take_some-got.ensures in
    let got = c.take_some-got.result in
    let is = sym c.self.view_is in
    c.a_daemon_goes_on_taking.ensures.calls c.args.app c.args.most got (g.F.Folder.told c.args.folder.now) (g.F.Folder.told c.take_some-got.new.folder) _ _ c.self.invariant
    (subst (λ (d : DaemonState g.row.L.Denot). d.greeted ≡ true) is c.requires.greeted)
    (subst (λ (d : DaemonState g.row.L.Denot). c.args.app < length d.desk.apps) is c.requires.app)
    (subst (λ (d : DaemonState g.row.L.Denot). d.noted + c.args.most ≤ d.calls) is c.requires.calls)
    (subst (λ (d : DaemonState g.row.L.Denot). d.claimed < claim_limit) is c.requires.claims)
    (record {
      takes = made.takes;
      empties = made.empties;
      settled = made.settled;
      desk_so = made.desk;
      desk = made.rest;
      noted = refl;
      claimed = ap (λ n. c.self.inside.claimed + n) (c.from.ensures ∙ as_bit got.claimed);
      rest = refl;
    })

pub returns : goal.returns
returns g c =
    let made = c.take_some-got.ensures in
    let got = c.take_some-got.result in
    some_seen c.args.app c.args.most got (g.F.Folder.told c.args.folder.now) (g.F.Folder.told c.take_some-got.new.folder) _ _ _ c.self.view_is (record {
      takes = made.takes;
      empties = made.empties;
      settled = made.settled;
      desk_so = made.desk;
      desk = made.rest;
      noted = refl;
      claimed = ap (λ n. c.self.inside.claimed + n) (c.from.ensures ∙ as_bit got.claimed);
      rest = refl;
    })
