-- Bytes moved to the front.
use Rattle.std.proofs.Common.{ℕ, ◌≡◌, ◌-◌, ◌+◌, ◌≤◌, ◌∙◌, List, take, drop, length}
use Rattle.std.specs.List.{copy_within}
use Rattle.std.proofs.lemmas.List.{take_at}
use Rattle.std.proofs.lemmas.List.Edits.{length-between}
use Rattle.std.proofs.lemmas.Slice.{between_is}

pub shifted : (xs : List ℕ) (i j : ℕ) → j ≤ length xs → take (j - i) (copy_within xs i j 0) ≡ drop i (take j xs)
shifted xs i j within = take_at (take (j - i) (drop i xs)) (drop (0 + (j - i)) xs) (j - i) (length-between xs i j within) ∙ between_is xs i j
