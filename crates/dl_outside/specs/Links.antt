-- What contracts see of the connections of a daemon.
use Rattle.std.specs.Prelude.{ℕ, List}

-- the links in order, the first one with number 1, and how many there is room for
pub record Links (L : Type 0) : Type 0 where
  pub links : List L
  pub room : ℕ
