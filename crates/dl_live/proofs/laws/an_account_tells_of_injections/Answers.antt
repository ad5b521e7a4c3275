use Rattle.dl_live.proofs.PostedInjections.{tells_injections}
use Rattle.dl_live.proofs.laws.an_account_tells_of_injections.Goals as goal

pub returns : goal.returns
returns c = tells_injections
