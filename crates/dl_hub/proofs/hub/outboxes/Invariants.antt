use Rattle.std.proofs.Common.{◌≡◌, ◌≤◌, [], length}
use Rattle.std.specs.Prelude.{vec_capacity}
use Rattle.std.specs.List.{All}
use Rattle.dl_hub.proofs.hub.outboxes.Given as goal

abbrev pub invariant-loop-i : goal.invariant-loop-i
invariant-loop-i l = (length l.free.items ≡ l._i) × (8 ≤ vec_capacity l.free) × All (λ r. (r.bytes ≡ []) × (r.capacity ≡ l.capacity) × (r.due ≡ []) × (r.begun ≡ [])) l.free.items
