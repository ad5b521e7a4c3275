use Rattle.dl_writer.proofs.Books.{some_at, none_at}
use Rattle.dl_writer.proofs.book_list.BookList.of.Goals as goal

pub unreachable-requires : goal.unreachable-requires
unreachable-requires c =
    none_at c.self.inside.books.items c.deref.result.now c.args.self.now c.args.place c.index-deref-place.result
    c.self.invariant c.self.view_is c.deref.ensures.0 c.requires c.index-deref-place.is c.in_default.is

pub returns : goal.returns
returns c =
    some_at c.self.inside.books.items c.deref.result.now c.args.self.now c.args.place c.index-deref-place.result c.in-Some.book
    c.self.invariant c.self.view_is c.deref.ensures.0 c.requires c.index-deref-place.is c.in-Some.is
