-- Which line of a text is at fault.
use Rattle.std.specs.Prelude.{ℕ, ◌+◌, List, [], ◌∷◌, ◌++◌, length, Option, None, option_map}
use Rattle.std.specs.Option.{option_or}

-- the most bytes of a script, a configuration or a stored configuration
abbrev pub size_limit : ℕ
size_limit = 16777216

-- The first line at fault, by its number, with what is wrong with it; that may depend on the lines before it.
abbrev pub first_fault_behind : {K : Type 0} → (List (List ℕ) → List ℕ → Option K) → (before : List (List ℕ)) → List (List ℕ) → Option (ℕ × K)
first_fault_behind fault before [] = None
first_fault_behind fault before (line ∷ lines) =
    option_or (option_map (λ kind. (length before + 1, kind)) (fault before line)) (first_fault_behind fault (before ++ line ∷ []) lines)

-- the same of a whole text, whose first line has the number 1
abbrev pub first_fault : {K : Type 0} → (List (List ℕ) → List ℕ → Option K) → List (List ℕ) → Option (ℕ × K)
first_fault fault lines = first_fault_behind fault [] lines
