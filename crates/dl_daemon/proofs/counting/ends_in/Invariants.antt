use Rattle.std.proofs.Common.{◌≡◌, take}
use Rattle.dl_daemon.specs.Figures.{ends_in}
use Rattle.dl_daemon.proofs.counting.ends_in.Given as goal

abbrev pub invariant-loop-end : goal.invariant-loop-end
invariant-loop-end l = l.counts ≡ ends_in (take l.end-index l.ends)
