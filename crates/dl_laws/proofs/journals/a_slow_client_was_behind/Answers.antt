use Rattle.dl_model.proofs.LongerJournals.{was_behind, was_needed}
use Rattle.dl_laws.proofs.journals.a_slow_client_was_behind.Goals as goal

pub returns-clause-behind : goal.returns-clause-behind
returns-clause-behind c = was_behind

pub returns-clause-needed : goal.returns-clause-needed
returns-clause-needed c = was_needed
