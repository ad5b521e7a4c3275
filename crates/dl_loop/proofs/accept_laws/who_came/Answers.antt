use Rattle.dl_loop.proofs.ComingRounds.{come_all, come_nobody, connected}
use Rattle.dl_loop.proofs.accept_laws.who_came.Goals as goal

pub returns-clause-connected : goal.returns-clause-connected
returns-clause-connected g c = connected

pub returns-clause-nobody : goal.returns-clause-nobody
returns-clause-nobody g c = come_nobody g.L.Link.told c.a_round_is_its_events.ensures.heard c.a_round_is_its_events.ensures.pumped

pub returns-clause-all : goal.returns-clause-all
returns-clause-all g c = come_all
