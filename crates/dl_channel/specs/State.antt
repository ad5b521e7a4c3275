-- What contracts see of what waits for a program.
use Rattle.std.specs.Prelude.{ℕ, Bool, false, List, []}

-- the bytes that wait, and whether a message found no room behind them
pub record Outbox : Type 0 where
  pub waiting : List ℕ
  pub full : Bool

-- the most bytes that wait
abbrev pub waiting_limit : ℕ
waiting_limit = 65536

-- nothing waits
abbrev pub empty : Outbox
empty = record { waiting = []; full = false }
