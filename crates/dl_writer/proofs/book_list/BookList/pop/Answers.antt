use Rattle.std.proofs.Common.{Some, sym, ◌∙◌}
use Rattle.dl_writer.proofs.Books.{left_there, last_given, last_there}
use Rattle.dl_writer.proofs.book_list.BookList.pop.Goals as goal

pub invariant_of-self-2 : goal.invariant_of-self-2
invariant_of-self-2 c = left_there c.self.inside.books.items c.pop.new.self.items (Some c.in_ok-pop.field-0) c.self.invariant c.in_ok-pop.ensures.items

pub returns-clause-taken : goal.returns-clause-taken
returns-clause-taken c = sym c.self.view_is ∙ last_given c.self.inside.books.items c.pop.new.self.items c.in_ok-pop.field-0 c.in_ok-pop.ensures.items

pub returns-clause-none : goal.returns-clause-none
returns-clause-none c = last_there _ c.self.inside.books.items c.pop.new.self.items c.in_ok-pop.field-0 c.self.invariant c.in_ok-pop.ensures.items
