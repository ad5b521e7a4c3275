use Rattle.std.proofs.Common.{◌≡◌, take}
use Rattle.dl_crew.specs.Calls.{count_of}
use Rattle.dl_opening.proofs.books.count.Given as goal

abbrev pub invariant-loop-line : goal.invariant-loop-line
invariant-loop-line l = l.count ≡ count_of l.writer (take l.line-index l.lines)
