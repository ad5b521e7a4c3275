use Rattle.std.proofs.Common.{◌≡◌, ◌++◌}
use Rattle.dl_core.specs.Follows.{unstored_records}
use Rattle.dl_core.proofs.anew.gather.Given as goal

abbrev pub invariant-loop-left : goal.invariant-loop-left
invariant-loop-left l = unstored_records l.ecu l.moment l.unstored ≡ l.batch ++ unstored_records l.ecu l.moment l.left

abbrev pub decreases-loop-left : goal.decreases-loop-left
decreases-loop-left l = l.left
