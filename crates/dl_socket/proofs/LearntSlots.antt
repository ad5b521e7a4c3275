-- Slots that were learnt, one after the other.
use Rattle.std.proofs.Common.{◌≡◌, ℕ, ◌<◌, Some, slice_get}
use Rattle.dl_cells.specs.LevelHistory.{current_version}
use Rattle.dl_registry.specs.Kept.{Kept, slots}
use Rattle.dl_socket.specs.Messenger.{Messenger}
use Rattle.dl_socket.specs.Ways.{way_of}

pub record HasLearnt (kept : Kept) (count : ℕ) (old new : Messenger) : Type 0 where
  pub ways : (slot : ℕ) → slot < count → slice_get new.ways slot ≡ Some (way_of kept.registry slot)
  pub versions : (slot : ℕ) → slot < count → (slots kept slot).version ≡ current_version 0 slot new.sets
  pub outboxes : new.outboxes ≡ old.outboxes
