use Rattle.std.proofs.Common.{◌≡◌, ◌++◌, All, map}
use Rattle.std.specs.Vec.Iter.{into_iter_items}
use Rattle.dl_desk.specs.Made.{IsMadeWith}
use Rattle.test_threads.proofs.crowds.start.Given as goal

abbrev pub invariant-loop-book : goal.invariant-loop-book
invariant-loop-book g l = record {
  made : All (λ b. IsMadeWith l.desk b.writer) (into_iter_items l.book-iterator);
  numbered : map (λ c. c.promise.before.value.writer.push.number) l.children.items ++ map (λ b. b.writer.push.number) (into_iter_items l.book-iterator) ≡ map (λ b. b.writer.push.number) l.fn.books.items;
  based : All (λ c. c.promise.before.value.writer.base ≡ 1) l.children.items × All (λ b. b.writer.base ≡ 1) (into_iter_items l.book-iterator);
  same : All (λ c. c.promise.desk.value ≡ l.desk) l.children.items;
}
