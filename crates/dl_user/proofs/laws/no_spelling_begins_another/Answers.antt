use Rattle.dl_user.proofs.Cuts.{no_other}
use Rattle.dl_user.proofs.laws.no_spelling_begins_another.Goals as goal

pub returns : goal.returns
returns c = no_other
