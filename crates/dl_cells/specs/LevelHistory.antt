-- The levels that each slot has had, and what a read of one says.
-- A slot begins at the first version with level 0. Each level that is set is its next version.
use Rattle.std.specs.Prelude.{◌≡◌, ℕ, ◌+◌, ◌-◌, ◌≤◌, ◌==◌, List, ◌∷◌, length, map, filter, All, Some, slice_get}
use Rattle.dl_cells.specs.declared.level_history.Change.{Change}
use Rattle.dl_cells.specs.declared.level_history.Read.{Read}

abbrev pub change : ℕ → ℕ → Change
change slot level = record { slot = slot; level = level }

abbrev pub read : ℕ → ℕ → ℕ → Read
read slot version level = record { slot = slot; version = version; level = level }

-- the levels that were set in a slot, in order
abbrev pub levels_set : ℕ → List Change → List ℕ
levels_set slot sets = map (λ c. c.level) (filter (λ c. c.slot == slot) sets)

-- all levels of a slot, in order
abbrev pub history : ℕ → List Change → List ℕ
history slot sets = 0 ∷ levels_set slot sets

-- the version of the last of them
abbrev pub current_version : ℕ → ℕ → List Change → ℕ
current_version first slot sets = first + length (levels_set slot sets)

-- the read found an entry of its slot's history
abbrev pub IsEntry : ℕ → List Change → Read → Type 0
IsEntry first sets r = (first ≤ r.version) × (slice_get (history r.slot sets) (r.version - first) ≡ Some r.level)

-- no read of the slot found a later version
abbrev pub NoneAbove : ℕ → ℕ → List Read → Type 0
NoneAbove slot version reads = All (λ r. r.slot ≡ slot → r.version ≤ version) reads
