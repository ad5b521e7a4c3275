use Rattle.std.proofs.Common.{◌≡◌, ℕ, ◌<◌, None}
use Rattle.dl_registry.specs.Table.{waiting_at}
use Rattle.dl_registry.proofs.table.SlotTable.waiting.Given as goal

abbrev pub invariant-loop-slot : goal.invariant-loop-slot
invariant-loop-slot l = (slot : ℕ) → slot < l.slot → waiting_at l.self slot ≡ None
