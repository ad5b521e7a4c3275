use Rattle.std.proofs.Common.{◌<◌, length}
use Rattle.dl_desk.specs.Made.{IsLater}
use Rattle.test_threads.proofs.crowds.set_often.Given as goal

abbrev pub invariant-loop-count : goal.invariant-loop-count
invariant-loop-count l = record { later : IsLater l.initial.desk l.desk; apps : 0 < length l.desk.apps }
