use Rattle.std.proofs.Common.{◌≡◌, ℕ, cond, None, take}
use Rattle.std.specs.Prelude.{◌==◌}
use Rattle.std.specs.List.{list_any}
use Rattle.dl_model.specs.Registry.{slot_of}
use Rattle.dl_registry.specs.Table.{wanted_at}
use Rattle.dl_registry.proofs.apply.clear_places.Given as goal

abbrev pub invariant-loop-place : goal.invariant-loop-place
invariant-loop-place l = record {
  first : l.table.first ≡ l.fn.table.first;
  held : l.table.held ≡ l.fn.table.held;
  levels : (slot : ℕ) → wanted_at l.table slot ≡ cond (list_any (λ place. slot == slot_of l.number place) (take l.place-index l.places)) None (wanted_at l.fn.table slot);
}
