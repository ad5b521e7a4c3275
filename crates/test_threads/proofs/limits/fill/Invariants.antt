use Rattle.std.proofs.Common.{◌≡◌}
use Rattle.test_threads.proofs.limits.fill.Given as goal

abbrev pub invariant-loop-number : goal.invariant-loop-number
invariant-loop-number l = record { number : l.app.number ≡ l.initial.app.number; apid : l.app.apid ≡ l.initial.app.apid }
