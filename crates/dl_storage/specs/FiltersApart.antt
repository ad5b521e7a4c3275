-- What a list of filters keeps to.
use Rattle.std.specs.Prelude.{◌≡◌, ℕ, ◌≤◌, Bool, true, not, ◌&&◌, List, [], ◌∷◌, length, map}
use Rattle.std.specs.List.{list_any}
use Rattle.std.specs.Str.{bytes_eq}
use Rattle.dl_storage.specs.declared.filter.Filter.{Filter}

-- no two of these names are the same
abbrev pub are_apart : List (List ℕ) → Bool
are_apart [] = true
are_apart (name ∷ names) = not (list_any (bytes_eq name) names) && are_apart names

-- the names of filters
abbrev pub names_of : List Filter → List (List ℕ)
names_of filters = map (λ (filter : Filter). filter.name) filters

-- at most 16 filters, no two of the same name
pub record AreFilters (filters : List Filter) : Type 0 where
  pub few : length filters ≤ 16
  pub apart : are_apart (names_of filters) ≡ true
