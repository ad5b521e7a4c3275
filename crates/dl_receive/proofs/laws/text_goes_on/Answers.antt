use Rattle.dl_receive.proofs.StreamCuts.{received-more}
use Rattle.dl_receive.proofs.laws.text_goes_on.Goals as goal

pub returns : goal.returns
returns c = received-more
