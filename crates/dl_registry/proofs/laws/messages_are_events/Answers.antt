use Rattle.dl_registry.proofs.Following.{message_follows}
use Rattle.dl_registry.proofs.laws.messages_are_events.Goals as goal

pub returns : goal.returns
returns c = message_follows
