use Rattle.dl_model.proofs.OwnLevels.{own_level-given_last}
use Rattle.dl_model.proofs.registry_laws.own_level_was_given_last.Goals as goal

pub returns : goal.returns
returns c = own_level-given_last
