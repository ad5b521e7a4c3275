use Rattle.std.proofs.Common.{◌≡◌, ◌+◌, ◌≤◌, [], length, refl, subst, sym}
use Rattle.dl_rounds.specs.Greetings.{registered}
use Rattle.dl_loop.specs.Greeting.{AreListed}
use Rattle.dl_loop.specs.Scene.{scene}
use Rattle.dl_loop.specs.State.{DaemonState, daemon_of}
use Rattle.dl_loop.proofs.GreetedDaemons.{greet_goes, greet_ok, greeted_seen}
use Rattle.dl_loop.proofs.daemon.Daemon.hello.Goals as goal

pub invariant_of-self : goal.invariant_of-self
invariant_of-self g c =
    let made = c.greet-told.ensures in
    let s = c.self.inside in
    let n = c.greet-told.new in
    let is = sym c.self.view_is in
    greet_ok g.L.Link.told c.args.moment c.args.apps.now
    (scene (daemon_of s.core s.desk s.journal s.links s.seats s.calls s.noted s.claimed s.dropped s.failed s.wanted s.greeted s.first_core.value s.first_desk.value) (g.F.Folder.told c.args.folder.now))
    (scene (daemon_of n.core n.desk n.journal s.links s.seats s.calls s.noted s.claimed s.dropped s.failed s.wanted c.is_ok-self-inside.result s.first_core.value s.first_desk.value) (g.F.Folder.told n.folder))
    c.self.invariant (subst (λ (d : DaemonState g.row.L.Denot). d.links.links ≡ []) is c.requires.nobody) c.requires.introduced
    (subst (λ (d : DaemonState g.row.L.Denot). registered d.core + length c.args.apps.now ≤ length d.desk.apps) is c.requires.place)
    (subst (λ (d : DaemonState g.row.L.Denot). AreListed d.desk.apps c.args.apps.now) is c.requires.listed)
    made.may made.spare made.rest refl c.greet-told.result made.greets made.first c.is_ok-self-inside.ensures.value

pub returns-clause-later : goal.returns-clause-later
returns-clause-later g c =
    let made = c.greet-told.ensures in
    let s = c.self.inside in
    let n = c.greet-told.new in
    let is = sym c.self.view_is in
    greeted_seen _ _ _ (g.F.Folder.told c.args.folder.now) (g.F.Folder.told n.folder) c.self.view_is
    (greet_goes g.L.Link.told c.args.moment c.args.apps.now
    (scene (daemon_of s.core s.desk s.journal s.links s.seats s.calls s.noted s.claimed s.dropped s.failed s.wanted s.greeted s.first_core.value s.first_desk.value) (g.F.Folder.told c.args.folder.now))
    (scene (daemon_of n.core n.desk n.journal s.links s.seats s.calls s.noted s.claimed s.dropped s.failed s.wanted c.is_ok-self-inside.result s.first_core.value s.first_desk.value) (g.F.Folder.told n.folder))
    c.self.invariant (subst (λ (d : DaemonState g.row.L.Denot). d.links.links ≡ []) is c.requires.nobody) c.requires.introduced
    (subst (λ (d : DaemonState g.row.L.Denot). registered d.core + length c.args.apps.now ≤ length d.desk.apps) is c.requires.place)
    (subst (λ (d : DaemonState g.row.L.Denot). AreListed d.desk.apps c.args.apps.now) is c.requires.listed)
    made.may made.spare made.rest refl c.greet-told.result made.greets made.first)
