-- Frames of one size, and how many of them have room. (Of the code alone: no promise rests on these words.)
use Rattle.std.specs.Prelude.{◌≡◌, ℕ, ◌+◌, ◌*◌, ◌≤◌, ◌<◌, List, length, map, replicate}
use Rattle.dl_report.specs.declared.batch.Batch.{Batch}

-- these are the frames: so many, and each of this size
abbrev pub IsBatch : Batch → List (List ℕ) → Type 0
IsBatch batch frames = map length frames ≡ replicate batch.frames batch.size

-- so many of the frames have room, and no more
pub record IsMost (batch : Batch) (room fits : ℕ) : Type 0 where
  pub some : fits ≤ batch.frames
  pub within : fits * batch.size ≤ room
  pub most : fits < batch.frames → room < (fits + 1) * batch.size
