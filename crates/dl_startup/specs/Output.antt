-- Texts one behind the other.
use Rattle.std.specs.Prelude.{List, ℕ, map}
use Rattle.std.specs.List.{concat}
use Rattle.std.specs.Borrow.{Bor}

-- texts one behind the other
abbrev pub joined : List (Bor (List ℕ)) → List ℕ
joined pieces = concat (map (λ piece. piece.now) pieces)
