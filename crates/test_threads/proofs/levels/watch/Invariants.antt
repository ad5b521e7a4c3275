use Rattle.std.proofs.Common.{ℕ, ◌<◌, ◌≤◌}
use Rattle.dl_cells.specs.LevelHistory.{NoneAbove}
use Rattle.test_threads.proofs.levels.watch.Given as goal

-- what no read is above is not below the last one
abbrev pub invariant-loop-n : goal.invariant-loop-n
invariant-loop-n l = record { some : 0 < l.reader.slots; last : (version : ℕ) → NoneAbove 0 version l.reader.reads → l.last ≤ version }
