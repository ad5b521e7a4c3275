use Rattle.dl_rounds.specs.Passing.{WasRead, WasSent}
use Rattle.dl_loop.specs.State.{clients_of}
use Rattle.dl_loop.proofs.OpenClients.{was_read, was_sent}
use Rattle.dl_loop.proofs.Parted.{each_parted}
use Rattle.dl_loop.proofs.laws.a_round_serves_each_client.Goals as goal

pub returns-clause-read : goal.returns-clause-read
returns-clause-read g c = λ answer net net_now old new round.
    each_parted g.L.Link.told WasRead (clients_of g.L.Link.told round.serves.accepted old.folder) round.served.folder new.folder round.served.daemon new.daemon round.parts round.folder
    (was_read c.a_round_visits_each_client.ensures.heard c.a_round_visits_each_client.ensures.pumped c.why_clients_stay.ensures.read c.why_clients_stay.ensures.sent
    g.L.Link.told answer net net_now old round.served round.serves)

pub returns-clause-sent : goal.returns-clause-sent
returns-clause-sent g c = λ answer net net_now old new round.
    each_parted g.L.Link.told WasSent (clients_of g.L.Link.told round.serves.accepted old.folder) round.served.folder new.folder round.served.daemon new.daemon round.parts round.folder
    (was_sent c.a_round_visits_each_client.ensures.heard c.a_round_visits_each_client.ensures.pumped c.why_clients_stay.ensures.read c.why_clients_stay.ensures.sent
    g.L.Link.told answer net net_now old round.served round.serves)
