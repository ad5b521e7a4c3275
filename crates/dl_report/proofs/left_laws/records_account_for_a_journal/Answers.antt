use Rattle.dl_report.proofs.ToldLosses.{told_have_records}
use Rattle.dl_report.proofs.left_laws.records_account_for_a_journal.Goals as goal

pub returns-clause-numbered : goal.returns-clause-numbered
returns-clause-numbered c = λ first events pending refusals pushed records are writer. (are.writers writer).account.numbered

pub returns-clause-told : goal.returns-clause-told
returns-clause-told c = told_have_records
