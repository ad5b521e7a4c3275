use Rattle.dl_opening.proofs.Playing.{opened_bases, opened_plays, opened_whole}
use Rattle.dl_opening.proofs.laws.opened_books_can_be_played.Goals as goal

pub returns-clause-few : goal.returns-clause-few
returns-clause-few c lines o is = is.books.few

pub returns-clause-room : goal.returns-clause-room
returns-clause-room c = opened_plays

pub returns-clause-whole : goal.returns-clause-whole
returns-clause-whole c = opened_whole

pub returns-clause-bases : goal.returns-clause-bases
returns-clause-bases c = opened_bases
