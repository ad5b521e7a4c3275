use Rattle.dl_turns.specs.Gone.{TellTheEnd}
use Rattle.dl_rounds.specs.Visits.{Closed, Heard, Pumped}
use Rattle.dl_rounds.proofs.VisitedEvents.{all_later}
use Rattle.dl_rounds.proofs.laws.a_round_is_its_events.Goals as goal

pub returns-clause-heard : goal.returns-clause-heard
returns-clause-heard g c = λ moved old new visits. all_later Heard c.a_visit_is_its_events.ensures.heard 0 visits.0 moved old new visits.1

pub returns-clause-pumped : goal.returns-clause-pumped
returns-clause-pumped g c = λ moved old new visits. all_later Pumped c.a_visit_is_its_events.ensures.pumped 0 visits.0 moved old new visits.1

pub returns-clause-closed : goal.returns-clause-closed
returns-clause-closed g c = λ old new visits. all_later (Closed (TellTheEnd g.L.Link.told)) c.a_visit_is_its_events.ensures.closed 0 visits.1.0 visits.0 old new visits.1.1
