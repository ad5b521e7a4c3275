-- How many events there are of calls, losses and claims, and how many there may be.
use Rattle.std.specs.Prelude.{ℕ, zero, suc, ◌+◌, ◌≤◌, List, length}
use Rattle.dl_cells.specs.Losses.{reported_of}
use Rattle.dl_ring.specs.Items.{calls_in, claims_in}
use Rattle.dl_cells.specs.Views.{total}
use Rattle.dl_writer.specs.State.{BookState}
use Rattle.dl_taking.specs.Took.{Took}

-- how many records these books have together
abbrev pub together : List BookState → ℕ
together books = total (λ b. length b.records) books

-- how many calls were taken and how many losses reported, of so many applications, from this number on
abbrev pub told_from : Took → ℕ → ℕ → ℕ
told_from took app zero = 0
told_from took app (suc more) = length (calls_in (took.taken app)) + reported_of app took.reported + told_from took (app + 1) more

-- Log and Lost events are so many at most: one for each call that was taken, and none without a loss that was reported.
abbrev pub IsFew : ℕ → Took → ℕ → Type 0
IsFew noted took apps = noted ≤ told_from took 0 apps

-- how many claims were taken, of so many applications, from this number on
abbrev pub claims_told_from : Took → ℕ → ℕ → ℕ
claims_told_from took app zero = 0
claims_told_from took app (suc more) = length (claims_in (took.taken app)) + claims_told_from took (app + 1) more

-- Claim events are so many at most: one for each claim that was taken.
abbrev pub HasFewClaims : ℕ → Took → ℕ → Type 0
HasFewClaims claimed took apps = claimed ≤ claims_told_from took 0 apps
