use Rattle.std.proofs.Common.{◌≡◌, length}
use Rattle.test_threads.proofs.exact.gives_in_turn.Given as goal

abbrev pub invariant-loop-call : goal.invariant-loop-call
invariant-loop-call g l = length l.desk.apps ≡ length l.initial.desk.apps
