use Rattle.dl_opening.proofs.AllCalls.{few_calls, rooms_fit}
use Rattle.dl_opening.proofs.laws.opened_books_have_few_calls.Goals as goal

pub returns-clause-room : goal.returns-clause-room
returns-clause-room c = rooms_fit

pub returns-clause-few : goal.returns-clause-few
returns-clause-few c = few_calls
