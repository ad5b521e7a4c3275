use Rattle.dl_loop.proofs.DroppedLinks.{may_drop_after_rounds, may_drop_after_stop}
use Rattle.dl_loop.proofs.laws.links_are_dropped_where_they_may_be.Goals as goal

pub returns-clause-rounds : goal.returns-clause-rounds
returns-clause-rounds g c = may_drop_after_rounds

pub returns-clause-stop : goal.returns-clause-stop
returns-clause-stop g c = may_drop_after_stop g.L.Link.told
