use Rattle.std.proofs.Common.{◌≡◌}
use Rattle.test_threads.proofs.programs.hear_all.Given as goal

abbrev pub invariant-loop-taken : goal.invariant-loop-taken
invariant-loop-taken g l = l.closing.apps ≡ l.initial.closing.apps
