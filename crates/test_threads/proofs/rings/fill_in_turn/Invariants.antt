use Rattle.std.proofs.Common.{◌≡◌}
use Rattle.test_threads.proofs.rings.fill_in_turn.Given as goal

abbrev pub invariant-loop-call : goal.invariant-loop-call
invariant-loop-call g l =
    record {
      one : l.one.number ≡ 1;
      one_ring : l.one.ring ≡ l.initial.one.ring;
      two : l.two.number ≡ 2;
      two_ring : l.two.ring ≡ l.initial.two.ring;
    }
