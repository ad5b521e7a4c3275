-- What contracts see of a buffer.
use Rattle.std.specs.Prelude.{ℕ, List}

-- the bytes fed and not consumed, how many more a feed takes, and how many it can hold at all
pub record Held : Type 0 where
  pub bytes : List ℕ
  pub room : ℕ
  pub capacity : ℕ
