use Rattle.std.proofs.Common.{◌≡◌, true}
use Rattle.dl_server.proofs.HeldRounds.{round_on}
use Rattle.dl_server.proofs.laws.a_round_is_its_events.Goals as goal

pub returns : goal.returns
returns g c = λ held net net_now users users_now old new round.
    round_on g.L.Link.told (held ≡ true) c.a_round_is_its_events.ensures.heard c.a_round_is_its_events.ensures.pumped c.a_pump_is_its_events.ensures net net_now users users_now old new round
