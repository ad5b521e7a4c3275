use Rattle.dl_laws.proofs.ClientCounts.{open_and_gone}
use Rattle.dl_laws.proofs.journals.open_and_gone_are_all.Goals as goal

pub returns : goal.returns
returns c = open_and_gone
