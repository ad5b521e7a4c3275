-- What contracts see of a payload.
use Rattle.std.specs.Prelude.{ℕ, List}

-- the bytes of verbose arguments, and their number
pub record Arguments : Type 0 where
  pub bytes : List ℕ
  pub args : ℕ
