use Rattle.std.proofs.Common.{◌≡◌, length}
use Rattle.dl_cells.specs.Losses.{counted_of}
use Rattle.test_threads.proofs.losses.count_each.Given as goal

abbrev pub invariant-loop-n : goal.invariant-loop-n
invariant-loop-n l = record { state : l.writer ≡ record l.initial.writer { counted = l.writer.counted }; long : length l.writer.counted ≡ l._n; counted : counted_of 0 l.writer.counted ≡ l._n }
