use Rattle.dl_sessions.proofs.MissingCalls.{missing_are}
use Rattle.dl_sessions.proofs.laws.missing_are_calls.Goals as goal

pub returns : goal.returns
returns c = missing_are
