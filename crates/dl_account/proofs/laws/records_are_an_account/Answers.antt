use Rattle.dl_account.proofs.Accounting.{is_account}
use Rattle.dl_account.proofs.laws.records_are_an_account.Goals as goal

pub returns : goal.returns
returns c = λ events s settled whole journal. is_account s settled whole events journal
