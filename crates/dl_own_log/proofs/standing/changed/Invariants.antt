use Rattle.std.proofs.Common.{◌≡◌, ◌++◌, drop}
use Rattle.dl_own_log.specs.Standings.{changed}
use Rattle.dl_own_log.proofs.standing.changed.Given as goal

abbrev pub invariant-loop-standing : goal.invariant-loop-standing
invariant-loop-standing l = l.all.items ++ changed l.fn.before (drop l.standing-index l.fn.now) ≡ changed l.fn.before l.fn.now
