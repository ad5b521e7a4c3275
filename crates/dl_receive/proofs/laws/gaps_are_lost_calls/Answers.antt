use Rattle.dl_receive.proofs.LostCalls.{gaps}
use Rattle.dl_receive.proofs.laws.gaps_are_lost_calls.Goals as goal

pub returns : goal.returns
returns c = gaps
