-- What contracts see of the keeper and the claimers of the claim words.
use Rattle.std.specs.Prelude.{ℕ, ◌==◌, List, [], ◌∷◌, ◌++◌, if◌then◌else◌}
use Rattle.atomic_table.specs.Seated.{TableId}
use Rattle.dl_cells.specs.declared.claimer.Given.{Given}
use Rattle.dl_cells.specs.Claims.{refused_of}

-- a claimer: which words it claims in, how many applications they have, each number that it was given, in order, the
-- application of each claim that found none left, and how many claimers can still be split off
pub record ClaimerState : Type 0 where
  pub table : TableId
  pub apps : ℕ
  pub given : List Given
  pub refused : List ℕ
  pub splits_left : ℕ

-- the keeper: which words, how many applications, what the claimers that joined were given, where they found none left,
-- and how many shares they had
pub record KeeperState : Type 0 where
  pub table : TableId
  pub apps : ℕ
  pub given : List Given
  pub refused : List ℕ
  pub shares : ℕ

-- after a claim of an application that gives no number: only the first one makes a step
abbrev pub once_refused : ℕ → List ℕ → List ℕ
once_refused app refused = if refused_of app refused == 0 then refused ++ app ∷ [] else refused
