-- What a source gave, where it tells it.
use Rattle.std.specs.Prelude.{◌≡◌, ℕ, List, ◌++◌, Option, Some, IfSome}

-- a source gave these bytes: with what is left they are what it had
abbrev pub Gave : Option (List ℕ) → Option (List ℕ) → List ℕ → Type 0
Gave had left given = IfSome had (λ all. (rest : List ℕ) × (left ≡ Some rest) × (given ++ rest ≡ all))
