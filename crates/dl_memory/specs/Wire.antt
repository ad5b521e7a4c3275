-- What contracts see of a connection in memory.
use Rattle.std.specs.Prelude.{ℕ, Bool, false, ◌==◌, ◌&&◌, nat_le, List, length, Option, Some, None}

-- what is left of its input and what it gave, what it took and for how many bytes it has room, after how many the peer
-- leaves, its counts, and whether it was shut
pub record Wire : Type 0 where
  pub left : List ℕ
  pub given : List ℕ
  pub taken : List ℕ
  pub leave : Option ℕ
  pub room : ℕ
  pub idles : ℕ
  pub waits : ℕ
  pub is_shut : Bool

abbrev pub has_left : Option ℕ → ℕ → Bool
has_left (Some bytes) taken = nat_le bytes taken
has_left None taken = false

-- nothing is left of its input, and the peer has read all that it wanted
abbrev pub is_over : Wire → Bool
is_over wire = (length wire.left == 0) && has_left wire.leave (length wire.taken)
