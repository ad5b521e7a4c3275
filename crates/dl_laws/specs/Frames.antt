-- Frames of a stream.
use Rattle.std.specs.Prelude.{◌≡◌, ℕ, ◌≤◌, List, length}
use Rattle.dl_bytes.specs.Htyp.{len_of}

-- a frame has at least the standard header, and its field LEN is its length
pub record TellsLen (frame : List ℕ) : Type 0 where
  pub least : 4 ≤ length frame
  pub len : len_of frame ≡ length frame
