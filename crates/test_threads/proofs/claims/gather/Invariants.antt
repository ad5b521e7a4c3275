use Rattle.std.proofs.Common.{◌≡◌, ◌+◌, ◌*◌, ◌≤◌, All, length}
use Rattle.std.specs.Vec.Iter.{into_iter_items, into_iter_len}
use Rattle.dl_cells.specs.Claims.{given_of, refused_of}
use Rattle.test_threads.proofs.claims.gather.Given as goal

abbrev pub invariant-loop-child : goal.invariant-loop-child
invariant-loop-child g l = record {
  state : l.keeper ≡ record l.initial.keeper { given = l.keeper.given; refused = l.keeper.refused; shares = l.keeper.shares };
  shares : l.keeper.shares + into_iter_len l.child-iterator ≡ 8;
  count : l.given.count ≡ length (given_of 0 l.keeper.given);
  few : l.given.count ≤ 16 * l.keeper.shares;
  all : 16 * l.keeper.shares ≤ l.given.count + 16 * refused_of 0 l.keeper.refused;
  same : All (λ c. c.promise.0.value.table ≡ l.keeper.table) (into_iter_items l.child-iterator);
}
