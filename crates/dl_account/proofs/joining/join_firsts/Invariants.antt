use Rattle.dl_account.proofs.Loops.{AreJoining}
use Rattle.dl_account.proofs.joining.join_firsts.Given as goal

abbrev pub invariant-loop-first : goal.invariant-loop-first
invariant-loop-first l = AreJoining l.fn.handles l.fn.firsts.items l.handles l.firsts.items

abbrev pub decreases-loop-first : goal.decreases-loop-first
decreases-loop-first l = goal.left-loop-first l
