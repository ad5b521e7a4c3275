-- The table of slots: what each one holds, and the level of the context that has it.
use Rattle.std.specs.Prelude.{ℕ, ◌≡◌, ◌<◌, ◌≤◌, ◌+◌, ◌⊎◌, ◌==◌, List, [], ◌∷◌, length, slice_index_or, slice_set, if◌then◌else◌, Option, Some, None, IsSome}
use Rattle.std.specs.Option.{option_and_then, option_or}
use Rattle.dl_model.specs.declared.registry.LevelChange.{LevelChange}
use Rattle.dl_model.specs.declared.registry.Slot.{Slot}
use Rattle.dl_bytes.specs.Limits.{last_version}
use Rattle.dl_model.specs.Registry.{slot_of, all_slots}

-- The first version of all slots, what each slot holds, and the effective level of the context that has it, where one has.
pub record Table : Type 0 where
  pub first : ℕ
  pub held : List Slot
  pub wanted : List (Option ℕ)

-- what a slot holds at the beginning
abbrev pub unset : ℕ → Slot
unset first = record { version = first; level = 0 }

-- what a slot holds, by the list of what was set
abbrev pub held_at : ℕ → List Slot → ℕ → Slot
held_at first held slot = slice_index_or held slot (unset first)

abbrev pub wanted_at : Table → ℕ → Option ℕ
wanted_at table slot = slice_index_or table.wanted slot None

-- the level that a slot waits for: that of its context, where the slot holds another one
abbrev pub differing : Slot → ℕ → Option ℕ → Option LevelChange
differing held slot wanted =
    option_and_then (λ level. if held.level == level then None else Some (record { slot = slot; level = level })) wanted

abbrev pub waiting_at : Table → ℕ → Option LevelChange
waiting_at table slot = differing (held_at table.first table.held slot) slot (wanted_at table slot)

-- the first of these slots that waits
abbrev pub first_waiting : Table → List ℕ → Option LevelChange
first_waiting table [] = None
first_waiting table (slot ∷ more) = option_or (waiting_at table slot) (first_waiting table more)

-- the first slot of all that waits
unfoldable pub next_waiting : Table → Option LevelChange
next_waiting table = first_waiting table all_slots

-- what a slot holds after its level was set
abbrev pub raised : Slot → ℕ → Slot
raised slot level = record { version = slot.version + 1; level = level }

abbrev pub held_after : ℕ → List Slot → LevelChange → List Slot
held_after first held change =
    slice_set held change.slot (raised (held_at first held change.slot) change.level)

-- no slot waits outside of these bounds
abbrev pub NoneWaitsOutside : Table → ℕ → ℕ → Type 0
NoneWaitsOutside table from to = (slot : ℕ) → ((slot < from) ⊎ (to ≤ slot)) → waiting_at table slot ≡ None

-- each slot is at a version that it can have
abbrev pub AreVersions : Table → Type 0
AreVersions table = (slot : ℕ) → (held_at table.first table.held slot).version ≤ last_version

-- what holds of the table: it has all slots, and only those within the bounds may wait
pub record Holds (table : Table) (from to : ℕ) : Type 0 where
  pub slots : length table.held ≡ 1024
  pub levels : length table.wanted ≡ 1024
  pub versions : AreVersions table
  pub bounds : to ≤ 1024
  pub settled : NoneWaitsOutside table from to

-- a slot at its last version does not wait
abbrev pub IsFresh : Table → Type 0
IsFresh table = (slot : ℕ) → (held_at table.first table.held slot).version ≡ last_version → waiting_at table slot ≡ None

-- the first of an application's 64 places that no context has, where there is one
abbrev pub IsFirstFree : Table → ℕ → Option ℕ → Type 0
IsFirstFree table number None = (place : ℕ) → place < 64 → IsSome (wanted_at table (slot_of number place))
IsFirstFree table number (Some free) =
    (free < 64) × (wanted_at table (slot_of number free) ≡ None)
    × ((place : ℕ) → place < free → IsSome (wanted_at table (slot_of number place)))

-- the first slot that waits, found, or none
abbrev pub IsFirstWaiting : Table → Option LevelChange → Type 0
IsFirstWaiting table None = (slot : ℕ) → waiting_at table slot ≡ None
IsFirstWaiting table (Some change) =
    (change.slot < 1024) × (waiting_at table change.slot ≡ Some change)
    × ((slot : ℕ) → slot < change.slot → waiting_at table slot ≡ None)
