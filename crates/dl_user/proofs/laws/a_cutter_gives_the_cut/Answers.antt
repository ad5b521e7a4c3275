use Rattle.dl_user.proofs.Cuts.{so_far}
use Rattle.dl_user.proofs.laws.a_cutter_gives_the_cut.Goals as goal

pub returns-clause-so_far : goal.returns-clause-so_far
returns-clause-so_far c = so_far

pub returns-clause-whole : goal.returns-clause-whole
returns-clause-whole c = λ calls new stop runs stops. (so_far calls new runs, stops)
