-- Pieces of text, one behind the other.
use Rattle.std.proofs.Common.{◌≡◌, ℕ, List, ◌++◌, ap, ◌∙◌, append_assoc}

-- a piece, and then another: both
pub behind : (t0 t1 t2 a b : List ℕ) → t1 ≡ t0 ++ a → t2 ≡ t1 ++ b → t2 ≡ t0 ++ (a ++ b)
behind t0 t1 t2 a b first second = second ∙ ap (λ (l : List ℕ). l ++ b) first ∙ append_assoc t0 a b
