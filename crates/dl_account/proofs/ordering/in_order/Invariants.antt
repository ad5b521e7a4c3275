use Rattle.dl_account.proofs.InOrder.{IsSoFar}
use Rattle.dl_account.proofs.ordering.in_order.Given as goal

abbrev pub invariant-loop-done : goal.invariant-loop-done
invariant-loop-done l = IsSoFar l.fn.books l.books l.ordered l.done
