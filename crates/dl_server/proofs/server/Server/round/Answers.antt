use Rattle.std.proofs.Common.{◌≡◌, sym, subst, ◌∙◌}
use Rattle.dl_outside.specs.Told.{NetTold}
use Rattle.dl_loop.proofs.RestedNets.{all_three, rested_so}
use Rattle.dl_server.specs.Round.{IsRound, has_moved}
use Rattle.dl_server.specs.State.{seen}
use Rattle.dl_server.proofs.server.Server.round.Goals as goal

pub returns-clause-round : goal.returns-clause-round
returns-clause-round g c =
    let s = seen g.L.Link.told g.J.Journal.events g.J.Journal.may_run_out in
    let was = g.F.Folder.told c.args.folder.now in
    let first = c.accept_all-came.new in
    let second = c.hear-heard.new in
    let third = c.pump-sent.new in
    let rest = c.rest_if_idle.ensures in
    let accepts = c.accept_all-came.ensures.accepts was in
    let hears = c.hear-heard.ensures.hears in
    let pumps = c.pump-sent.ensures.pumps in
    subst (λ (n : NetTold g.row.L.Denot). (round : IsRound g.L.Link.told (g.N.Net.told c.args.net.now) n (g.N.Net.told c.args.users.now) (g.N.Net.told first.users) (s was c.args.self.now)
    (s (g.F.Folder.told third.folder) third.self)) × (c.rest_if_idle.result ≡ has_moved round))
    (sym (rested_so g.N.Net.told _ _ _ rest.rests rest.leaves)) (
      record { accepted = s was first.self; accepts = accepts.0; heard = s (g.F.Folder.told second.folder) second.self; hears = hears.0; pumps = pumps.0 },
      rest.answer ∙ all_three accepts.1 hears.1 pumps.1,
    )

pub returns-clause-limits : goal.returns-clause-limits
returns-clause-limits g c =
    let first = c.accept_all-came.ensures.limits in
    let second = c.hear-heard.ensures.limits in
    let third = c.pump-sent.ensures.limits in
    record { clients = third.clients ∙ second.clients ∙ first.clients; channels = third.channels ∙ second.channels ∙ first.channels }
