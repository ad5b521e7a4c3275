-- Which numbers of each application were given, and how often none was left.
use Rattle.std.specs.Prelude.{ℕ, ◌==◌, List, map, filter, count_by}
use Rattle.dl_cells.specs.declared.claimer.Given.{Given}

abbrev pub given : ℕ → ℕ → Given
given app number = record { app = app; number = number }

-- the numbers of an application that were given, in order
abbrev pub given_of : ℕ → List Given → List ℕ
given_of app xs = map (λ g. g.number) (filter (λ g. g.app == app) xs)

-- how often a claim of an application found none left
abbrev pub refused_of : ℕ → List ℕ → ℕ
refused_of app refused = count_by (λ a. a == app) refused
