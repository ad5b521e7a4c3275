use Rattle.dl_user.proofs.Cuts.{cut_goes_on, cut_ended}
use Rattle.dl_user.proofs.laws.a_cut_goes_on.Goals as goal

pub returns-clause-more : goal.returns-clause-more
returns-clause-more c = cut_goes_on

pub returns-clause-bad : goal.returns-clause-bad
returns-clause-bad c = cut_ended
