use Rattle.dl_loop.proofs.ComingRounds.{come_round, tells_round}
use Rattle.dl_loop.proofs.accept_laws.what_an_answer_tells.Goals as goal

pub returns-clause-came : goal.returns-clause-came
returns-clause-came g c = come_round g.L.Link.told c.a_round_is_its_events.ensures.heard c.a_round_is_its_events.ensures.pumped

pub returns-clause-tells : goal.returns-clause-tells
returns-clause-tells g c = tells_round g.L.Link.told c.a_round_is_its_events.ensures.heard c.a_round_is_its_events.ensures.pumped
