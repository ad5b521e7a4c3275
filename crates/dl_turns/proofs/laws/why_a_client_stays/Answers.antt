use Rattle.dl_turns.proofs.StayCauses.{stays_since}
use Rattle.dl_turns.proofs.laws.why_a_client_stays.Goals as goal

pub returns : goal.returns
returns c = stays_since
