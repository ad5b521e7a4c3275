use Rattle.std.proofs.Common.{◌≡◌, ℕ, ◌<◌, ◌^◌, List, length}
use Rattle.dl_ring.specs.declared.item.RingItem.{RingItem}
use Rattle.dl_desk.specs.Handles.{QueueHolds, RingHolds}
use Rattle.dl_desk.specs.Lists.{At}
use Rattle.dl_account.specs.Joining.{AreGiven}
use Rattle.dl_account.proofs.waiting.look_at_handles.Given as goal

abbrev pub invariant-loop-app : goal.invariant-loop-app
invariant-loop-app l = record {
  same : l.handles ≡ l.fn.handles;
  rings : (app : ℕ) → app < l.app → (contents : List RingItem) × RingHolds l.handles app contents;
  queues : (app : ℕ) → app < l.app → (left : ℕ) × QueueHolds l.handles app left;
  range : (app : ℕ) → app < l.app → At l.handles.apps app (λ e. length e.queue.pushed < 2 ^ 64);
  given : (app : ℕ) → app < l.app → (count : ℕ) × AreGiven app count l.handles.levels;
}
