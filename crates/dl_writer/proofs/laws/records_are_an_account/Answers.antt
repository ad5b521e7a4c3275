use Rattle.dl_writer.proofs.Accounting.{account}
use Rattle.dl_writer.proofs.laws.records_are_an_account.Goals as goal

pub returns : goal.returns
returns c = account
