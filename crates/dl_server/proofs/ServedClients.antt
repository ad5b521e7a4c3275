-- What visits to clients leave of a server.
use Rattle.std.proofs.Common.{ap, ◌∙◌, arith}
use Rattle.dl_desk.specs.Told.{ControlTold}
use Rattle.dl_outside.specs.Links.{Links}
use Rattle.dl_registry.specs.Kept.{Kept}
use Rattle.dl_rounds.specs.Clients.{Clients}
use Rattle.dl_channels.specs.Accepting.{AreLinked}
use Rattle.dl_socket.specs.Channels.{Channels}
use Rattle.dl_socket.specs.Listening.{HaveServed}

-- the channels have their links as before
pub served_links : {L : Type 0} {Visits : Clients → Clients → Type 0} {registry : Kept} {before after : ControlTold → Clients} {old new : Channels} {links : Links L}
    → HaveServed Visits registry before after old new → AreLinked links old → AreLinked links new
served_links {L} {Visits} {registry} {before} {after} {old} {new} {links} serves linked = record {
  many = ap (λ (cs : Channels). cs.opened) serves.is ∙ linked.many;
  place = omega (arith, linked.place, ap (λ (cs : Channels). cs.in_all) serves.is);
}
