use Rattle.dl_turns.specs.Gone.{TellTheEnd}
use Rattle.dl_rounds.specs.Visits.{Closed, Heard, Pumped}
use Rattle.dl_rounds.proofs.ShutLinks as shut
use Rattle.dl_rounds.proofs.laws.links_of_gone_clients_are_shut.Goals as goal

pub returns-clause-heard : goal.returns-clause-heard
returns-clause-heard g c = shut.all_shut Heard c.a_visit_is_its_events.ensures.heard

pub returns-clause-pumped : goal.returns-clause-pumped
returns-clause-pumped g c = shut.all_shut Pumped c.a_visit_is_its_events.ensures.pumped

pub returns-clause-closed : goal.returns-clause-closed
returns-clause-closed g c = λ old new visits. shut.all_shut (Closed (TellTheEnd g.L.Link.told)) c.a_visit_is_its_events.ensures.closed visits.0 old new visits.1

pub returns-clause-parted : goal.returns-clause-parted
returns-clause-parted g c = shut.parted
