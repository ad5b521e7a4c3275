use Rattle.dl_rounds.proofs.VisitedClients.{each_read, each_sent}
use Rattle.dl_rounds.proofs.laws.why_clients_stay.Goals as goal

pub returns-clause-read : goal.returns-clause-read
returns-clause-read c = λ moved old new visits. each_read c.why_a_client_stays.ensures old new (c.a_round_visits_each_client.ensures.heard moved old new visits)

pub returns-clause-sent : goal.returns-clause-sent
returns-clause-sent c = λ moved old new visits. each_sent old new (c.a_round_visits_each_client.ensures.pumped moved old new visits)
