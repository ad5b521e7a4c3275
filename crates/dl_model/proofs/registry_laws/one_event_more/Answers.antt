use Rattle.dl_model.proofs.OneMore.{registry-one, accepted-one}
use Rattle.dl_model.proofs.registry_laws.one_event_more.Goals as goal

pub returns-clause-registry : goal.returns-clause-registry
returns-clause-registry c = registry-one

pub returns-clause-accepted : goal.returns-clause-accepted
returns-clause-accepted c = accepted-one
