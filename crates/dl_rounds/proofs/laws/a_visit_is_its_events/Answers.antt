use Rattle.dl_rounds.proofs.VisitedEvents.{closed_visit, heard_visit, pumped_visit}
use Rattle.dl_rounds.proofs.laws.a_visit_is_its_events.Goals as goal

pub returns-clause-heard : goal.returns-clause-heard
returns-clause-heard g c = heard_visit c.a_turn_is_its_events.ensures c.links_show_why_clients_went.ensures.turn

pub returns-clause-pumped : goal.returns-clause-pumped
returns-clause-pumped g c = pumped_visit c.a_pump_is_its_events.ensures c.links_show_why_clients_went.ensures.pump

pub returns-clause-closed : goal.returns-clause-closed
returns-clause-closed g c = closed_visit c.a_stop_is_its_events.ensures c.links_show_why_clients_went.ensures.stop
