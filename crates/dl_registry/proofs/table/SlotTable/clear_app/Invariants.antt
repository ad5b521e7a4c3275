use Rattle.std.proofs.Common.{◌≡◌, ℕ, ◌<◌, ◌/◌, ◌%◌, None}
use Rattle.dl_registry.specs.Table.{wanted_at}
use Rattle.dl_registry.proofs.table.SlotTable.clear_app.Given as goal

abbrev pub invariant-loop-place : goal.invariant-loop-place
invariant-loop-place l = record {
  first : l.self.first ≡ l.fn.self.first;
  held : l.self.held ≡ l.fn.self.held;
  gone : (slot : ℕ) → slot / 64 ≡ l.number → slot % 64 < l.place → wanted_at l.self slot ≡ None;
  kept : (slot : ℕ) → (slot / 64 ≡ l.number → slot % 64 < l.place → ⊥) → wanted_at l.self slot ≡ wanted_at l.fn.self slot;
}
