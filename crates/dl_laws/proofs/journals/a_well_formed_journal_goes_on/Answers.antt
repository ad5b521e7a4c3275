use Rattle.dl_model.proofs.LongerJournals.{goes_on}
use Rattle.dl_laws.proofs.journals.a_well_formed_journal_goes_on.Goals as goal

pub returns : goal.returns
returns c = goes_on
