use Rattle.std.proofs.Common.{ℕ, ◌<◌}
use Rattle.dl_account.specs.Known.{IsEmpty, IsTold}
use Rattle.dl_account.proofs.closing.Closing.is_drained.Given as goal

abbrev pub invariant-loop-app : goal.invariant-loop-app
invariant-loop-app l = (app : ℕ) → app < l.app → IsEmpty l.self app × IsTold l.self app
