use Rattle.std.proofs.Common.{◌≡◌, ◌≤◌, ◌<◌, ◌-◌, ℕ, Some, length}
use Rattle.std.specs.Prelude.{slice_get, IsSome}
use Rattle.dl_hub.specs.State.{outbox_of}
use Rattle.dl_rounds.proofs.listener_pool.seat_of_gone.Given as goal

-- the clients of all seats so far are open
abbrev pub invariant-loop-seat : goal.invariant-loop-seat
invariant-loop-seat l = record {
  within : l.seat ≤ length l.fn.clients;
  all_open : (seat number : ℕ) → seat < l.seat → slice_get l.fn.clients seat ≡ Some number → IsSome (outbox_of l.fn.hub number);
}

abbrev pub decreases-loop-seat : goal.decreases-loop-seat
decreases-loop-seat l = length l.fn.clients - l.seat
