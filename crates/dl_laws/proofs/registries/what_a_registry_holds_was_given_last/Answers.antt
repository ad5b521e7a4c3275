use Rattle.dl_laws.proofs.GivenLast.{default_given_last, number_given_last, stored_given_last, told_given_last}
use Rattle.dl_laws.proofs.registries.what_a_registry_holds_was_given_last.Goals as goal

pub returns-clause-default_level : goal.returns-clause-default_level
returns-clause-default_level c = default_given_last

pub returns-clause-stored : goal.returns-clause-stored
returns-clause-stored c = stored_given_last

pub returns-clause-told : goal.returns-clause-told
returns-clause-told c = told_given_last

pub returns-clause-number : goal.returns-clause-number
returns-clause-number c = number_given_last
