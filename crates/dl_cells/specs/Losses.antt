-- How many calls of each application were lost, as counted and as reported.
use Rattle.std.specs.Prelude.{ℕ, ◌==◌, List, count_by, filter}
use Rattle.std.specs.List.{sum_by}
use Rattle.dl_cells.specs.declared.loss_keeper.Report.{Report}

abbrev pub report : ℕ → ℕ → Report
report app count = record { app = app; count = count }

-- how often an application stands in a list of counted losses
abbrev pub counted_of : ℕ → List ℕ → ℕ
counted_of app counted = count_by (λ a. a == app) counted

-- what was reported of an application, added up
abbrev pub reported_of : ℕ → List Report → ℕ
reported_of app reported = sum_by (λ r. r.count) (filter (λ r. r.app == app) reported)
