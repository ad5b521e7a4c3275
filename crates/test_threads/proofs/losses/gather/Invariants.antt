use Rattle.std.proofs.Common.{◌≡◌, ◌+◌, ◌*◌, All, vec_len}
use Rattle.std.specs.Vec.Iter.{into_iter_items, into_iter_len}
use Rattle.dl_cells.specs.Losses.{counted_of}
use Rattle.test_threads.proofs.losses.gather.Given as goal

abbrev pub invariant-loop-child : goal.invariant-loop-child
invariant-loop-child g l = record {
  state : l.keeper ≡ record l.initial.keeper { counted = l.keeper.counted; shares = l.keeper.shares };
  shares : l.keeper.shares + into_iter_len l.child-iterator ≡ vec_len l.fn.children;
  counted : counted_of 0 l.keeper.counted ≡ 10000 * l.keeper.shares;
  same : All (λ c. c.promise.0.value.table ≡ l.keeper.table) (into_iter_items l.child-iterator);
}
