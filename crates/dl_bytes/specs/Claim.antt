-- What contracts see of a claim.
use Rattle.std.specs.Prelude.{ℕ, List, Option}

-- the application's number, the writer's, the place that was claimed, and the context that is to have it: its id, the own level
-- that it asks for, and its description
pub record Claimed : Type 0 where
  pub app : ℕ
  pub writer : ℕ
  pub place : ℕ
  pub ctid : List ℕ
  pub level : Option ℕ
  pub text : List ℕ
