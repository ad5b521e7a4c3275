use Rattle.dl_core.proofs.Beginnings.{holds_first}
use Rattle.dl_core.proofs.laws.the_beginning_holds_what_stood.Goals as goal

pub returns : goal.returns
returns c = holds_first
