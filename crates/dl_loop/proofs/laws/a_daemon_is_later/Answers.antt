use Rattle.dl_loop.proofs.GoneRounds.{later_by_both, later_by_none}
use Rattle.dl_loop.proofs.laws.a_daemon_is_later.Goals as goal

pub returns-clause-none : goal.returns-clause-none
returns-clause-none g c = later_by_none

pub returns-clause-both : goal.returns-clause-both
returns-clause-both g c = later_by_both
