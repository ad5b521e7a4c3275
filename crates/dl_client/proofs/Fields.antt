-- Bytes added one after another.
use Rattle.std.proofs.Common.{List, ap, append_assoc, ℕ, ◌++◌, ◌∙◌, ◌≡◌}

-- pieces added one after another are one piece
pub one_more : (before first second between after : List ℕ) → between ≡ before ++ first → after ≡ between ++ second → after ≡ before ++ (first ++ second)
one_more before first second between after one two = two ∙ ap (λ (bs : List ℕ). bs ++ second) one ∙ append_assoc before first second
