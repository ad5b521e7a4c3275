-- The sizes of the files that stored frames make. (Of the code alone: no promise rests on these words.)
use Rattle.std.specs.Prelude.{ℕ, zero, suc, ◌+◌, nat_le, List, [], ◌∷◌, sum, if◌then◌else◌}

-- the sizes with a frame of so many bytes more: in the newest file where it fits, else in a new one
abbrev pub with_frame : ℕ → ℕ → List ℕ → List ℕ
with_frame limit bytes [] = bytes ∷ []
with_frame limit bytes (size ∷ []) = if nat_le (size + bytes) limit then (size + bytes) ∷ [] else size ∷ bytes ∷ []
with_frame limit bytes (size ∷ next ∷ sizes) = size ∷ with_frame limit bytes (next ∷ sizes)

-- the same with so many such frames
abbrev pub with_frames : ℕ → ℕ → ℕ → List ℕ → List ℕ
with_frames limit bytes zero sizes = sizes
with_frames limit bytes (suc n) sizes = with_frame limit bytes (with_frames limit bytes n sizes)

-- how many of the oldest files go, so that the others have together at most so many bytes
abbrev pub going : ℕ → List ℕ → ℕ
going limit [] = 0
going limit (size ∷ sizes) = if nat_le (sum (size ∷ sizes)) limit then 0 else suc (going limit sizes)
