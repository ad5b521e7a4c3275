use Rattle.dl_core.proofs.Answered.{replies_are}
use Rattle.dl_core.proofs.laws.replies_are_requests.Goals as goal

pub returns : goal.returns
returns c = replies_are
