use Rattle.dl_turns.specs.Gone.{TellTheEnd}
use Rattle.dl_rounds.specs.Visits.{Closed, Heard, Pumped}
use Rattle.dl_rounds.proofs.NotedClients.{stay_all}
use Rattle.dl_rounds.proofs.laws.clients_are_as_noted.Goals as goal

pub returns-clause-heard : goal.returns-clause-heard
returns-clause-heard g c = λ moved old new visits. stay_all Heard c.a_visit_is_its_events.ensures.heard moved old new visits.0 visits.1

pub returns-clause-pumped : goal.returns-clause-pumped
returns-clause-pumped g c = λ moved old new visits. stay_all Pumped c.a_visit_is_its_events.ensures.pumped moved old new visits.0 visits.1

pub returns-clause-closed : goal.returns-clause-closed
returns-clause-closed g c = λ old new visits. stay_all (Closed (TellTheEnd g.L.Link.told)) c.a_visit_is_its_events.ensures.closed visits.0 old new visits.1.0 visits.1.1
