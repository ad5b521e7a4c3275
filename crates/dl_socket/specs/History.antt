-- The levels that were set, slot by slot.
use Rattle.std.specs.Prelude.{◌==◌, ℕ, not, List, ◌++◌, filter, replicate}
use Rattle.dl_cells.specs.LevelHistory.{change}
use Rattle.dl_cells.specs.declared.level_history.Change.{Change}

-- A slot is at a version: just so many levels were set in it. Those of other slots stand.
abbrev pub with_version : ℕ → ℕ → List Change → List Change
with_version slot version sets = filter (λ c. not (c.slot == slot)) sets ++ replicate version (change slot 0)
