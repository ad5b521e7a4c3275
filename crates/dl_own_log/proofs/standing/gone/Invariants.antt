use Rattle.std.proofs.Common.{◌≡◌, ◌++◌, drop}
use Rattle.dl_own_log.specs.Standings.{gone}
use Rattle.dl_own_log.proofs.standing.gone.Given as goal

abbrev pub invariant-loop-standing : goal.invariant-loop-standing
invariant-loop-standing l = l.all.items ++ gone (drop l.standing-index l.fn.before) l.fn.now ≡ gone l.fn.before l.fn.now
