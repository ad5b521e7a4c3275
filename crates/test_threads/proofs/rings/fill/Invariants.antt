use Rattle.std.proofs.Common.{◌≡◌, ◌≤◌}
use Rattle.test_threads.proofs.rings.fill.Given as goal

abbrev pub invariant-loop-call : goal.invariant-loop-call
invariant-loop-call g l = record { number : l.push.number ≡ l.writer; ring : l.push.ring ≡ l.initial.push.ring; first : l.first ≤ l.call }
