-- What contracts see of the keeper and the writers of the loss words.
use Rattle.std.specs.Prelude.{ℕ, List}
use Rattle.atomic_table.specs.Seated.{TableId}
use Rattle.dl_cells.specs.declared.loss_keeper.Report.{Report}

-- a writer: which words it counts in, how many applications they have, the application of each loss that it counted, in
-- order, and how many writers can still be split off
pub record WriterState : Type 0 where
  pub table : TableId
  pub apps : ℕ
  pub counted : List ℕ
  pub splits_left : ℕ

-- the keeper: which words, how many applications, what the writers that joined had counted, how many shares they had, and
-- what each take gave, in order
pub record KeeperState : Type 0 where
  pub table : TableId
  pub apps : ℕ
  pub counted : List ℕ
  pub shares : ℕ
  pub reported : List Report
