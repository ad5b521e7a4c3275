use Rattle.dl_account.proofs.OpenBooks.{stay_in_order}
use Rattle.dl_account.proofs.laws.books_in_order_stay.Goals as goal

pub returns : goal.returns
returns c = stay_in_order
