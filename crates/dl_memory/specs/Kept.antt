-- What contracts see of a source and a sink in memory.
use Rattle.std.specs.Prelude.{ℕ, ◌==◌, List, length, min, if◌then◌else◌}
use Rattle.dl_outside.specs.declared.source.Got.{Got}
use Rattle.dl_outside.specs.declared.source.Got.TheVariants as got

-- what is left of a source's bytes, and how many it gives in one read at most
pub record Supply : Type 0 where
  pub bytes : List ℕ
  pub piece : ℕ

-- what a sink took, how many bytes it takes in one write at most, and how often it failed
pub record Kept : Type 0 where
  pub bytes : List ℕ
  pub piece : ℕ
  pub faults : ℕ

-- what a read into so many bytes gives: as many as there are, as fit, and as one piece has
abbrev pub next_piece : Supply → ℕ → Got
next_piece supply room =
    if length supply.bytes == 0 then got.End else got.Bytes (min (min (length supply.bytes) room) supply.piece)

-- the port of a dial in memory, and what it gives
pub record Served : Type 0 where
  pub port : ℕ
  pub bytes : List ℕ
