-- Frames that stand one behind the other, with their sizes beside them.
use Rattle.std.specs.Prelude.{◌≡◌, ℕ, suc, ◌-◌, ◌<◌, ◌≤◌, nat_le, List, [], ◌∷◌, length, take, drop, sum, All, if◌then◌else◌}

-- bytes parted into frames of these sizes
abbrev pub parted : List ℕ → List ℕ → List (List ℕ)
parted [] bytes = []
parted (size ∷ sizes) bytes = take size bytes ∷ parted sizes (drop size bytes)

-- the sizes are those of stored frames, and there are just so many bytes
pub record AreSizes (sizes bytes : List ℕ) : Type 0 where
  pub each : All (λ (size : ℕ). (17 ≤ size) × (size ≤ 2000)) sizes
  pub whole : sum sizes ≡ length bytes

-- what a batch keeps to: at most 64 frames, and room for as many
pub record IsBatch (sizes bytes : List ℕ) (capacity : ℕ) : Type 0 where
  pub few : length sizes ≤ 64
  pub sized : AreSizes sizes bytes
  pub room : 128000 ≤ capacity

-- how many of the frames fit, from the first one on
abbrev pub fit : ℕ → List ℕ → ℕ
fit room [] = 0
fit room (size ∷ sizes) = if nat_le size room then suc (fit (room - size) sizes) else 0

-- so many frames are at the front, at least one, and they have so many bytes
pub record IsNext (frames bytes : ℕ) (sizes : List ℕ) : Type 0 where
  pub some : 0 < frames
  pub within : frames ≤ length sizes
  pub sum_is : bytes ≡ sum (take frames sizes)
