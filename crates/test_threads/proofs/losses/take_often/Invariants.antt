use Rattle.std.proofs.Common.{◌≡◌}
use Rattle.dl_cells.specs.Losses.{reported_of}
use Rattle.test_threads.proofs.losses.take_often.Given as goal

abbrev pub invariant-loop-n : goal.invariant-loop-n
invariant-loop-n l = record { state : l.keeper ≡ record l.initial.keeper { reported = l.keeper.reported }; reported : reported_of 0 l.keeper.reported ≡ l.taken }
