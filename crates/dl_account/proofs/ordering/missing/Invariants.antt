use Rattle.std.proofs.Common.{ℕ, ◌≤◌, ◌<◌}
use Rattle.dl_account.specs.Making.{IsAmong}
use Rattle.dl_account.proofs.ordering.missing.Given as goal

abbrev pub invariant-loop-number : goal.invariant-loop-number
invariant-loop-number l = (number : ℕ) → 1 ≤ number → number < l.number → IsAmong l.books number
