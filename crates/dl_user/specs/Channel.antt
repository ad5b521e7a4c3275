-- What contracts see of a cutter.
use Rattle.std.specs.Prelude.{ℕ, ◌+◌, List, []}
use Rattle.dl_bytes.specs.Limits.{frame_limit}

-- the bytes fed and not given yet, and how many more a feed takes
pub record Channel : Type 0 where
  pub unread : List ℕ
  pub room : ℕ

-- the most bytes of a user message: the marker, the kind, and a log message
abbrev pub longest : ℕ
longest = 8 + frame_limit

-- a cutter to which nothing was fed: it has room for the longest message
abbrev pub unfed : Channel
unfed = record { unread = []; room = longest }
