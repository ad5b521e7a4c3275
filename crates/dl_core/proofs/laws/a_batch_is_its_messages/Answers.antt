use Rattle.dl_core.proofs.BatchedMessages.{batch_one}
use Rattle.dl_core.proofs.laws.a_batch_is_its_messages.Goals as goal

pub returns : goal.returns
returns c = batch_one
