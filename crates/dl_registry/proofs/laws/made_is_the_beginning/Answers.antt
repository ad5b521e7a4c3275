use Rattle.dl_registry.proofs.Following.{made_follows}
use Rattle.dl_registry.proofs.laws.made_is_the_beginning.Goals as goal

pub returns : goal.returns
returns c = made_follows
