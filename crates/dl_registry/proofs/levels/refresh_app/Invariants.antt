use Rattle.std.proofs.Common.{◌≡◌, ℕ, ◌<◌, ◌≤◌, map, reverse}
use Rattle.std.specs.Map.Iter.{deref}
use Rattle.std.specs.Option.{option_or}
use Rattle.dl_registry.specs.Refresh.{level_among}
use Rattle.dl_registry.specs.Table.{wanted_at}
use Rattle.dl_registry.proofs.levels.refresh_app.Given as goal

abbrev pub invariant-loop-context : goal.invariant-loop-context
invariant-loop-context l = record {
  first : l.table.first ≡ l.fn.table.first;
  held : l.table.held ≡ l.fn.table.held;
  outside : (slot : ℕ) → 1024 ≤ slot → wanted_at l.table slot ≡ wanted_at l.fn.table slot;
  levels : (slot : ℕ) → slot < 1024 → wanted_at l.table slot ≡ option_or (level_among l.level l.number (reverse (map deref l.yielded)) slot) (wanted_at l.fn.table slot);
}
