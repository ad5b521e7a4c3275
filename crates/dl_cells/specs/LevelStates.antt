-- What contracts see of the keeper and the readers of the level words.
use Rattle.std.specs.Prelude.{ℕ, List}
use Rattle.atomic_table.specs.Seated.{TableId}
use Rattle.dl_cells.specs.declared.claimer.Given.{Given}
use Rattle.dl_cells.specs.declared.level_history.Change.{Change}
use Rattle.dl_cells.specs.declared.level_history.Read.{Read}

-- a reader: which words it reads, how many slots they have, its reads in order, how many readers can still be split off,
-- in which words it claims, each number that it was given, in order, and the application of each claim that found none left
pub record ReaderState : Type 0 where
  pub table : TableId
  pub slots : ℕ
  pub reads : List Read
  pub splits_left : ℕ
  pub claims : TableId
  pub given : List Given
  pub refused : List ℕ

-- the keeper: which words, how many slots, the first version of each, what was set in order, the reads of all that joined,
-- which claim words, what the readers that joined were given, where they found none left, and how many shares they had
pub record KeeperState : Type 0 where
  pub table : TableId
  pub slots : ℕ
  pub first : ℕ
  pub sets : List Change
  pub reads : List Read
  pub claims : TableId
  pub given : List Given
  pub refused : List ℕ
  pub shares : ℕ
