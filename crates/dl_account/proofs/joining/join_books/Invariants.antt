use Rattle.std.proofs.Common.{length}
use Rattle.dl_account.proofs.Loops.{IsJoining}
use Rattle.dl_account.proofs.joining.join_books.Given as goal

abbrev pub invariant-loop-book : goal.invariant-loop-book
invariant-loop-book l = IsJoining l.fn.handles l.fn.books l.handles l.books l.entries

abbrev pub decreases-loop-book : goal.decreases-loop-book
decreases-loop-book l = length l.books
