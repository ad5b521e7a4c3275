use Rattle.dl_receive.proofs.Hearing.{listening, waited_for}
use Rattle.dl_receive.proofs.laws.heard_whole.Goals as goal

pub returns-clause-listening : goal.returns-clause-listening
returns-clause-listening c = listening

pub returns-clause-waited : goal.returns-clause-waited
returns-clause-waited c = waited_for
