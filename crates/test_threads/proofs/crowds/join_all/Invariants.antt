use Rattle.std.proofs.Common.{◌≡◌, ◌+◌, ◌++◌, All, length, map, vec_len}
use Rattle.std.specs.Vec.Iter.{into_iter_items}
use Rattle.dl_desk.specs.Made.{IsMadeWith}
use Rattle.dl_desk.specs.State.{DeskState}
use Rattle.dl_writer.specs.State.{numbers}
use Rattle.test_threads.proofs.crowds.join_all.Given as goal

abbrev pub invariant-loop-child : goal.invariant-loop-child
invariant-loop-child g l = record {
  few : length l.books + length (into_iter_items l.child-iterator) ≡ vec_len l.fn.children;
  numbered : numbers l.books ++ map (λ c. c.promise.before.value.writer.push.number) (into_iter_items l.child-iterator) ≡ map (λ c. c.promise.before.value.writer.push.number) l.fn.children.items;
  made : (desk : DeskState) → All (λ c. c.promise.desk.value ≡ desk) l.fn.children.items → All (λ b. IsMadeWith desk b.writer) l.books × All (λ c. c.promise.desk.value ≡ desk) (into_iter_items l.child-iterator);
  based : All (λ b. b.writer.base ≡ 1) l.books × All (λ c. c.promise.before.value.writer.base ≡ 1) (into_iter_items l.child-iterator);
}
