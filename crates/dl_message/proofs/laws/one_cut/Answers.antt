use Rattle.dl_message.proofs.Cuts.{one_cut, its_cut}
use Rattle.dl_message.proofs.laws.one_cut.Goals as goal

pub returns-clause-some : goal.returns-clause-some
returns-clause-some c = its_cut

pub returns-clause-one : goal.returns-clause-one
returns-clause-one c = λ limit stream ps rest is. one_cut limit stream ps _ rest _ is (its_cut limit stream)
