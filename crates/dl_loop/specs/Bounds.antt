-- How many frames a daemon has admitted at most.
use Rattle.std.specs.Prelude.{ℕ, ◌+◌, ◌*◌, ◌^◌, ◌<◌, ◌≤◌, List, sum_by}
use Rattle.std.specs.List.{range_with_len}
use Rattle.dl_cells.specs.Losses.{reported_of}
use Rattle.dl_cells.specs.declared.loss_keeper.Report.{Report}

-- the losses that were reported of all applications together
abbrev pub all_reported : List Report → ℕ
all_reported reports = sum_by (λ app. reported_of app reports) (range_with_len 0 16)

-- At most one frame was admitted for each Log and each Lost event, and one more for each 4,294,967,295 lost calls that were reported; and
-- of each application fewer than 2^47 were.
pub record HasBounds (noted admitted : ℕ) (reports : List Report) : Type 0 where
  pub few : 4294967295 * admitted ≤ 4294967295 * noted + all_reported reports
  pub small : (app : ℕ) → reported_of app reports < 2 ^ 47
