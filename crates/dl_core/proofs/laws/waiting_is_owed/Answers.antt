use Rattle.dl_registry.proofs.Following.{change_is_owed}
use Rattle.dl_core.proofs.laws.waiting_is_owed.Goals as goal

pub returns : goal.returns
returns c = λ run events taken core is. change_is_owed run.setting events core.registry is.registry
