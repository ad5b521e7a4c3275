use Rattle.std.proofs.Common.{◌≡◌, ◌+◌}
use Rattle.test_threads.proofs.levels.start_watchers.Given as goal

abbrev pub invariant-loop-n : goal.invariant-loop-n
invariant-loop-n g l = record { state : l.first ≡ record l.initial.first { splits_left = l.first.splits_left }; left : l.first.splits_left + l._n ≡ 64 }
