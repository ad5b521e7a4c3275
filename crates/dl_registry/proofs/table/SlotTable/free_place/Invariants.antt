use Rattle.std.proofs.Common.{ℕ, ◌<◌, IsSome}
use Rattle.dl_model.specs.Registry.{slot_of as slot_number}
use Rattle.dl_registry.specs.Table.{wanted_at}
use Rattle.dl_registry.proofs.table.SlotTable.free_place.Given as goal

abbrev pub invariant-loop-place : goal.invariant-loop-place
invariant-loop-place l = (place : ℕ) → place < l.place → IsSome (wanted_at l.self (slot_number l.number place))
