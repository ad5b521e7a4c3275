use Rattle.std.proofs.Common.{arith}
use Rattle.dl_writer.proofs.Books.{is_missing}
use Rattle.dl_writer.proofs.book_list.BookList.place_of.Goals as goal

pub returns-clause-none : goal.returns-clause-none
returns-clause-none c = is_missing c.args.self.now c.args.number (λ place b within at. c.loop-place.invariant place b (omega (arith, within, c.loop-place-test.false, c.len-place-end.ensures)) at)
