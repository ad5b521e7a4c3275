use Rattle.std.proofs.Common.{◌≡◌, length}
use Rattle.dl_args.proofs.read.check_args.Given as goal

abbrev pub invariant-loop-arg : goal.invariant-loop-arg
invariant-loop-arg l = l.unread.fault ≡ l.fn.reader.fault

abbrev pub decreases-loop-arg : goal.decreases-loop-arg
decreases-loop-arg l = length l.unread.args
