use Rattle.std.proofs.Common.{List, length}
use Rattle.dl_sessions.specs.declared.session.Told.{Told}
use Rattle.dl_sessions.specs.Follows.{AreAfter}
use Rattle.dl_sessions.proofs.Following.{IsCounting}
use Rattle.dl_sessions.proofs.follower.Counts.add_all.Given as goal

-- the messages so far
abbrev pub invariant-loop-place : goal.invariant-loop-place
invariant-loop-place l = (before : List Told) → AreAfter before l.fn.self → IsCounting before l.fn.bytes l.rest l.self

abbrev pub decreases-loop-place : goal.decreases-loop-place
decreases-loop-place l = length l.rest
