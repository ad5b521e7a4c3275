use Rattle.dl_account.proofs.OpenBooks.{same_bases}
use Rattle.dl_account.proofs.laws.bases_are_same.Goals as goal

pub returns : goal.returns
returns c = same_bases
