-- The records of all writers.
use Rattle.std.specs.Prelude.{List, Option}
use Rattle.std.specs.List.{filter_map}

-- the entries that are there, in order
abbrev pub given : {A : Type 0} → List (Option A) → List A
given entries = filter_map (λ entry. entry) entries
