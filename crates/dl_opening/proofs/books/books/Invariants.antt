use Rattle.std.proofs.Common.{◌≡◌, ◌≤◌, length, take}
use Rattle.dl_crew.specs.Plays.{ArePairs}
use Rattle.dl_account.proofs.OpenBooks.{AreOpen}
use Rattle.dl_opening.specs.Opening.{IsBookOf, StaysSo}
use Rattle.dl_opening.specs.Scenario.{apps, opened_from, writers}
use Rattle.dl_opening.proofs.books.books.Given as goal

abbrev pub invariant-loop-line : goal.invariant-loop-line
invariant-loop-line l = record {
  apps : l.list ≡ opened_from l.lines (writers (take l.line-index l.lines)) 0 (apps l.lines);
  desk : StaysSo l.initial.desk l.desk;
  pairs : ArePairs (IsBookOf l.lines) (writers (take l.line-index l.lines)) l.books;
  open_so : AreOpen l.desk l.books (length l.books);
  few : length l.books ≤ 32;
}
