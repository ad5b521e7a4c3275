use Rattle.std.proofs.Common.{◌≡◌, ◌≤◌, ◌-◌, ℕ, Some, length}
use Rattle.std.specs.Prelude.{slice_get}
use Rattle.dl_rounds.proofs.listener_pool.seat_of.Given as goal

-- the seat isn't behind
abbrev pub invariant-loop-seat : goal.invariant-loop-seat
invariant-loop-seat l = (own : ℕ) → slice_get l.fn.clients own ≡ Some l.fn.client → l.seat ≤ own

abbrev pub decreases-loop-seat : goal.decreases-loop-seat
decreases-loop-seat l = length l.fn.clients - l.seat
