-- The words of the command line.
use Rattle.std.specs.Prelude.{ℕ, nat_eq, nat_le, List, [], ◌∷◌, Option, Some, None, if◌then◌else◌}
use Rattle.std.specs.List.{starts_with}
use Rattle.std.specs.Option.{option_and_then}
use Rattle.dl_text.specs.Decimal.{number_of}

-- a port: decimal digits without a zero before them, at most 65535
abbrev pub port_of : List ℕ → Option ℕ
port_of word =
    if starts_with nat_eq word (48 ∷ []) then None
    else option_and_then (λ n. if nat_le n 65535 then Some n else None) (number_of word)

-- the port that the words ask for: it alone stands after the program's name
abbrev pub asked_port : List (List ℕ) → Option ℕ
asked_port [] = None
asked_port (name ∷ []) = None
asked_port (name ∷ word ∷ []) = port_of word
asked_port (name ∷ word ∷ more ∷ words) = None
