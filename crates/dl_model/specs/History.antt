-- The levels of a slot: what its level word held, version by version.
use Rattle.std.specs.Prelude.{ℕ, ◌+◌, ◌==◌, List, ◌∷◌, length, if◌then◌else◌, Option, Some, None, unwrap_or}
use Rattle.std.specs.List.{filter_map, last_or}
use Rattle.dl_events.specs.declared.event.Event.{Event}
use Rattle.dl_events.specs.declared.event.Event.TheVariants.{Level}
use Rattle.dl_model.specs.declared.registry.Slot.{Slot}

-- the level that an event gives the slot
abbrev pub level_for : ℕ → Event → Option ℕ
level_for slot (Level other level) = if other == slot then Some level else None
level_for slot _ = None

-- The history of a slot: 0, then the levels of its Level events. Version v is the entry with v entries before it; where
-- the first version is not 0, it is the entry v - first.
abbrev pub history : List Event → ℕ → List ℕ
history events slot = 0 ∷ filter_map (level_for slot) events

-- what the slot holds after these events: its last level, and the version of that
abbrev pub slot_after : ℕ → List Event → ℕ → Slot
slot_after first events slot = record {
  version = first + length (filter_map (level_for slot) events);
  level = unwrap_or (last_or None (history events slot)) 0;
}
