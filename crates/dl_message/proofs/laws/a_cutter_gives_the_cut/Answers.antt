use Rattle.dl_message.proofs.Calls.{so_far, whole}
use Rattle.dl_message.proofs.laws.a_cutter_gives_the_cut.Goals as goal

pub returns-clause-so_far : goal.returns-clause-so_far
returns-clause-so_far c = so_far

pub returns-clause-whole : goal.returns-clause-whole
returns-clause-whole c = whole
