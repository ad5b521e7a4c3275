use Rattle.dl_model.proofs.AppPresence.{app_there-by_accepted}
use Rattle.dl_model.proofs.ContextPresence.{context_there-by_accepted}
use Rattle.dl_model.proofs.registry_laws.who_is_there.Goals as goal

pub returns-clause-apps : goal.returns-clause-apps
returns-clause-apps c = app_there-by_accepted

pub returns-clause-contexts : goal.returns-clause-contexts
returns-clause-contexts c = context_there-by_accepted
