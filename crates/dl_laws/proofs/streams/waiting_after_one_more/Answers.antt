use Rattle.dl_model.proofs.ClientStreams.{waiting-comes, waiting-goes, waiting-reply, waiting-admit}
use Rattle.dl_laws.proofs.streams.waiting_after_one_more.Goals as goal

pub returns-clause-comes : goal.returns-clause-comes
returns-clause-comes c = waiting-comes

pub returns-clause-goes : goal.returns-clause-goes
returns-clause-goes c = waiting-goes

pub returns-clause-reply : goal.returns-clause-reply
returns-clause-reply c = waiting-reply

pub returns-clause-admit : goal.returns-clause-admit
returns-clause-admit c = waiting-admit
