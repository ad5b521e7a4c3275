use Rattle.std.proofs.Common.{◌≡◌, All}
use Rattle.dl_desk.specs.Apps.{contexts}
use Rattle.dl_desk.specs.Made.{IsAppOf}
use Rattle.dl_account.proofs.OpenBooks.{AreOpen}
use Rattle.test_threads.proofs.programs.open_books.Given as goal

abbrev pub invariant-loop-writer : goal.invariant-loop-writer
invariant-loop-writer l = record {
  app : IsAppOf l.desk l.app;
  one : contexts l.app ≡ 1;
  apps : l.desk.apps ≡ l.initial.desk.apps;
  open_so : AreOpen l.desk l.books.items l.writer;
  bases : All (λ b. b.writer.base ≡ 1) l.books.items;
}
