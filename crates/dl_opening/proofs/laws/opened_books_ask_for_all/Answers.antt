use Rattle.dl_opening.proofs.AskedCalls.{all_asked}
use Rattle.dl_opening.proofs.laws.opened_books_ask_for_all.Goals as goal

pub returns : goal.returns
returns c = all_asked
