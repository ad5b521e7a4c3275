use Rattle.dl_loop.proofs.GoneRounds.{goes_both, goes_none}
use Rattle.dl_loop.proofs.laws.rounds_go_on.Goals as goal

pub returns-clause-none : goal.returns-clause-none
returns-clause-none g c = goes_none

pub returns-clause-both : goal.returns-clause-both
returns-clause-both g c = goes_both
