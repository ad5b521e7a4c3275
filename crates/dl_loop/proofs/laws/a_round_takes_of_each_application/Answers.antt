use Rattle.dl_loop.proofs.TurnsHad.{round_had, turn_had}
use Rattle.dl_loop.proofs.laws.a_round_takes_of_each_application.Goals as goal

pub returns-clause-turn : goal.returns-clause-turn
returns-clause-turn g c = turn_had

pub returns-clause-round : goal.returns-clause-round
returns-clause-round g c = round_had g.L.Link.told
