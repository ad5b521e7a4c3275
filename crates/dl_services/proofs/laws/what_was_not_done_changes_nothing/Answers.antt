use Rattle.dl_services.proofs.Requests.{not_done-registry, not_done-reply}
use Rattle.dl_services.proofs.laws.what_was_not_done_changes_nothing.Goals as goal

pub returns-clause-registry : goal.returns-clause-registry
returns-clause-registry c = not_done-registry

pub returns-clause-status : goal.returns-clause-status
returns-clause-status c = not_done-reply
