use Rattle.dl_loop.proofs.ComingRounds.{come_both, come_none}
use Rattle.dl_loop.proofs.accept_laws.connections_add_up.Goals as goal

pub returns-clause-none : goal.returns-clause-none
returns-clause-none g c = come_none

pub returns-clause-both : goal.returns-clause-both
returns-clause-both g c = come_both
