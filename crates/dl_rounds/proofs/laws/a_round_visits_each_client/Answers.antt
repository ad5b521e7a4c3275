use Rattle.dl_rounds.specs.Visits.{Heard, Pumped}
use Rattle.dl_rounds.proofs.VisitedClients.{visited_all}
use Rattle.dl_rounds.proofs.VisitedEvents.{heard_visit, pumped_visit}
use Rattle.dl_rounds.proofs.laws.a_round_visits_each_client.Goals as goal

pub returns-clause-heard : goal.returns-clause-heard
returns-clause-heard c = visited_all Heard (heard_visit c.a_turn_is_its_events.ensures c.links_show_why_clients_went.ensures.turn)

pub returns-clause-pumped : goal.returns-clause-pumped
returns-clause-pumped c = visited_all Pumped (pumped_visit c.a_pump_is_its_events.ensures c.links_show_why_clients_went.ensures.pump)
