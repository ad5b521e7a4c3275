use Rattle.dl_registry.proofs.Following.{claim_follows}
use Rattle.dl_registry.proofs.laws.claims_are_events.Goals as goal

pub returns : goal.returns
returns c = claim_follows
