use Rattle.dl_loop.proofs.ToldJournals.{told_journal}
use Rattle.dl_loop.proofs.laws.what_is_told_is_the_journal.Goals as goal

pub returns : goal.returns
returns c = told_journal
