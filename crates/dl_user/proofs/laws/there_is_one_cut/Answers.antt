use Rattle.dl_user.proofs.Cuts.{cut_is_there, cut_once}
use Rattle.dl_user.proofs.laws.there_is_one_cut.Goals as goal

pub returns-clause-some : goal.returns-clause-some
returns-clause-some c = cut_is_there

pub returns-clause-one : goal.returns-clause-one
returns-clause-one c = cut_once
