-- The rule of the level words, and what each step on them tells.
use Rattle.std.specs.Prelude.{◌≡◌, ℕ, ◌/◌, ◌%◌, ◌<◌, ◌≤◌, true, false, List, [], ◌∷◌, ◌++◌, length, slice_index, All}
use Rattle.atomic_table.specs.Table.{State, Me, Step}
use Rattle.dl_cells.specs.Views.{Each}
use Rattle.dl_cells.specs.declared.level_history.Change.{Change}
use Rattle.dl_cells.specs.declared.level_history.Read.{Read}
use Rattle.dl_cells.specs.declared.level_words.View.{View}
use Rattle.dl_cells.specs.declared.level_words.Shape.{Shape}
use Rattle.dl_cells.specs.LevelHistory.{change, read, current_version, IsEntry, NoneAbove}

-- what is read of a word, which is 16 * version + level
abbrev pub read_of : ℕ → ℕ → Read
read_of slot word = read slot (word / 16) (word % 16)

-- a word has the version and the level of the last entry of its slot's history
abbrev pub IsWord : ℕ → List Change → ℕ → ℕ → Type 0
IsWord first sets slot word = IsEntry first sets (read_of slot word) × (word / 16 ≡ current_version first slot sets) × (word % 16 ≤ 6)

-- the keeper knows what was set, and each read in a view is an entry
abbrev pub Fits : ℕ → ℕ → List Change → ℕ → View → Type 0
Fits first keeper sets id v = (v.keeps ≡ true → (id ≡ keeper) × (v.first ≡ first) × (v.sets ≡ sets)) × All (IsEntry first sets) v.reads

pub record Keeps (shape : Shape) (s : State (Unit {0}) View) : Type 0 where
  pub keeper : ℕ
  pub sets : List Change
  pub slots : length s.words ≡ shape.slots
  pub words : (slot : ℕ) → slot < shape.slots → IsWord shape.first sets slot (slice_index s.words slot)
  pub fits : Each (Fits shape.first keeper sets) s.views

-- the first seat is the keeper's
abbrev pub opening_view : Shape → View
opening_view shape = record { first = shape.first; keeps = true; sets = []; reads = [] }

abbrev pub reader_view : View → View
reader_view v = record v { keeps = false; sets = [] }

abbrev pub joined_view : View → View → View
joined_view v w = record v { reads = v.reads ++ w.reads }

abbrev pub spent_view : View
spent_view = record { first = 0; keeps = false; sets = []; reads = [] }

abbrev pub with_read : View → Read → View
with_read v r = record v { reads = v.reads ++ r ∷ [] }

abbrev pub with_change : View → Change → View
with_change v c = record v { sets = v.sets ++ c ∷ [] }

-- a load adds a read, which no earlier one is above; and each read of the keeper is an entry
abbrev pub loaded : Step (Unit {0}) → Me (Unit {0}) View → ℕ → Me (Unit {0}) View → Type 0
loaded s before found after =
    (after.0 ≡ with_read before.0 (read_of s.word found)) × (after.1 ≡ before.1)
    × NoneAbove s.word (found / 16) before.0.reads × (found % 16 ≤ 6)
    × (before.0.keeps ≡ true → All (IsEntry before.0.first before.0.sets) after.0.reads)

-- a swap adds a change
abbrev pub swapped : Step (Unit {0}) → Me (Unit {0}) View → ℕ → Me (Unit {0}) View → Type 0
swapped s before found after = (after.0 ≡ with_change before.0 (change s.word (s.first % 16))) × (after.1 ≡ before.1)
