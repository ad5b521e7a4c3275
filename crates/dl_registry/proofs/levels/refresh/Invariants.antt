use Rattle.std.proofs.Common.{◌≡◌, ℕ, ◌<◌, ◌≤◌, map, reverse}
use Rattle.std.specs.Map.Iter.{deref}
use Rattle.std.specs.Option.{option_or}
use Rattle.dl_registry.specs.Refresh.{level_in_apps}
use Rattle.dl_registry.specs.Table.{wanted_at}
use Rattle.dl_registry.proofs.levels.refresh.Given as goal

abbrev pub invariant-loop-app : goal.invariant-loop-app
invariant-loop-app l = record {
  first : l.table.first ≡ l.fn.table.first;
  held : l.table.held ≡ l.fn.table.held;
  outside : (slot : ℕ) → 1024 ≤ slot → wanted_at l.table slot ≡ wanted_at l.fn.table slot;
  levels : (slot : ℕ) → slot < 1024 → wanted_at l.table slot ≡ option_or (level_in_apps l.level (reverse (map deref l.yielded)) slot) (wanted_at l.fn.table slot);
}
