use Rattle.dl_loop.proofs.Daemons.{accept_is, hear_is, pump_is}
use Rattle.dl_loop.proofs.Parted.{part_is}
use Rattle.dl_loop.proofs.laws.a_daemon_goes_on.Goals as goal

pub returns-clause-accepted : goal.returns-clause-accepted
returns-clause-accepted g c = accept_is g.L.Link.told

pub returns-clause-heard : goal.returns-clause-heard
returns-clause-heard g c = hear_is c.clients_are_as_noted.ensures.heard g.L.Link.told c.gone_clients_show_why.ensures.heard

pub returns-clause-pumped : goal.returns-clause-pumped
returns-clause-pumped g c = pump_is c.clients_are_as_noted.ensures.pumped c.a_pump_is_its_events.ensures g.L.Link.told c.gone_clients_show_why.ensures.pumped

pub returns-clause-parted : goal.returns-clause-parted
returns-clause-parted g c = part_is g.L.Link.told
