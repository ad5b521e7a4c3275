use Rattle.dl_account.proofs.OpenBooks.{made_with}
use Rattle.dl_account.proofs.laws.books_in_order_are_apart.Goals as goal

pub returns : goal.returns
returns c = λ desk books made numbered bases. made_with desk books _ made numbered bases
