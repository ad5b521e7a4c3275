use Rattle.dl_find.proofs.Wording.{begins}
use Rattle.dl_find.proofs.laws.begins_with_its_word.Goals as goal

pub returns : goal.returns
returns c = begins
