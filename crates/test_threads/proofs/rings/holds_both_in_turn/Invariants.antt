use Rattle.std.proofs.Common.{◌≡◌}
use Rattle.test_threads.proofs.rings.holds_both_in_turn.Given as goal

abbrev pub invariant-loop-turn : goal.invariant-loop-turn
invariant-loop-turn g l = l.push.number ≡ 1
