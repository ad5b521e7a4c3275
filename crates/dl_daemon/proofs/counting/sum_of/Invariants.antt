use Rattle.std.proofs.Common.{◌≡◌, take}
use Rattle.dl_daemon.specs.Figures.{sum_of}
use Rattle.dl_daemon.proofs.counting.sum_of.Given as goal

abbrev pub invariant-loop-file : goal.invariant-loop-file
invariant-loop-file l = l.bytes ≡ sum_of (take l.file-index l.files)
