use Rattle.dl_turns.specs.Gone.{TellTheEnd}
use Rattle.dl_rounds.proofs.ShownClients.{closed_all, heard_all, pumped_all}
use Rattle.dl_rounds.proofs.laws.gone_clients_show_why.Goals as goal

pub returns-clause-heard : goal.returns-clause-heard
returns-clause-heard g c = λ moved old new visits told shown.
    heard_all (TellTheEnd g.L.Link.told) c.a_turn_is_its_events.ensures c.counts_show_why_clients_went.ensures.turn c.links_show_why_clients_went.ensures.left moved old new visits.0 visits.1 told shown

pub returns-clause-pumped : goal.returns-clause-pumped
returns-clause-pumped g c = λ moved old new visits shown. pumped_all (TellTheEnd g.L.Link.told) c.a_pump_is_its_events.ensures c.counts_show_why_clients_went.ensures.pump moved old new visits.0 visits.1 shown

pub returns-clause-closed : goal.returns-clause-closed
returns-clause-closed g c = λ old new visits shown. closed_all (TellTheEnd g.L.Link.told) c.a_stop_is_its_events.ensures c.counts_show_why_clients_went.ensures.stop visits.0 old new visits.1.0 visits.1.1 shown
