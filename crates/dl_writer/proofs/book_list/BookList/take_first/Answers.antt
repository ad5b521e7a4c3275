use Rattle.std.proofs.Common.{rules, ◌<◌, length}
use Rattle.dl_writer.proofs.Books.{there_without, first_there}
use Rattle.dl_writer.proofs.book_list.BookList.take_first.Goals as goal

pub invariant_of-self : goal.invariant_of-self
invariant_of-self c = there_without c.self.inside.books.items c.remove.new.self.items 0 c.self.invariant c.remove.ensures.items

pub returns-clause-none : goal.returns-clause-none
returns-clause-none c =
    let some : 0 < length c.self.inside.books.items = search rules in
    first_there _ c.self.inside.books.items c.remove.result c.self.invariant some c.remove.ensures.value
