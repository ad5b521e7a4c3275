use Rattle.dl_message.proofs.Whole.{whole_spelled}
use Rattle.dl_message.proofs.laws.whole_messages.Goals as goal

pub returns-clause-spelled : goal.returns-clause-spelled
returns-clause-spelled c = whole_spelled
