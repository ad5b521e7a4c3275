use Rattle.dl_writer.proofs.Accounting.{losses}
use Rattle.dl_writer.proofs.laws.losses_are_lost_calls.Goals as goal

pub returns : goal.returns
returns c = losses
