use Rattle.std.proofs.Common.{◌≡◌, ◌+◌, All, vec_len}
use Rattle.test_threads.proofs.claims.start.Given as goal

abbrev pub invariant-loop-n : goal.invariant-loop-n
invariant-loop-n g l = record { state : l.first ≡ record l.initial.first { splits_left = l.first.splits_left }; left : l.first.splits_left + l._n ≡ 64; count : vec_len l.children ≡ l._n; same : All (λ c. c.promise.0.value.table ≡ l.keeper.table) l.children.items }
