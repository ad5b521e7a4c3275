use Rattle.std.proofs.Common.{map, refl, subst}
use Rattle.dl_hub.specs.State.{Hub}
use Rattle.dl_rounds.specs.Partings.{ShutsGone}
use Rattle.dl_loop.proofs.SeenDaemons.{parts_seen}
use Rattle.dl_loop.proofs.daemon.Daemon.part.Goals as goal

pub invariant_of-self : goal.invariant_of-self
invariant_of-self g c =
    let told = g.L.Link.told in
    let shuts = subst (λ (h : Hub). ShutsGone h (map told c.self.inside.links.links) (map told c.shut_gone.new.links.links)) c.hub.ensures c.shut_gone.ensures.shuts in
    c.a_daemon_goes_on.ensures.parted _ _ c.self.invariant (record { shuts = shuts; room = c.shut_gone.ensures.room; rest = refl })

pub returns : goal.returns
returns g c =
    let told = g.L.Link.told in
    let shuts = subst (λ (h : Hub). ShutsGone h (map told c.self.inside.links.links) (map told c.shut_gone.new.links.links)) c.hub.ensures c.shut_gone.ensures.shuts in
    parts_seen told _ _ _ c.self.view_is (record { shuts = shuts; room = c.shut_gone.ensures.room; rest = refl })
