-- What stands in the books of writers, in the order of the books.
use Rattle.std.specs.Prelude.{ℕ, ◌-◌, ◌==◌, List, [], ◌∷◌, ◌++◌, map, slice_get, unwrap_or, if◌then◌else◌}
use Rattle.dl_bytes.specs.Claim.{Claimed}
use Rattle.dl_events.specs.declared.record.Record.{Record}
use Rattle.dl_writer.specs.State.{BookState}

-- of each writer its records, the claims that its ring took, and how many of its pushes the ring refused
pub record EntriesState : Type 0 where
  pub records : List (List Record)
  pub claims : List (List Claimed)
  pub refusals : List ℕ

abbrev pub entries_of : List BookState → EntriesState
entries_of books = record { records = map (λ b. b.records) books; claims = map (λ b. b.claims) books; refusals = map (λ b. b.writer.push.refusals) books }

-- with those of one writer more
abbrev pub with_entry : EntriesState → List Record → List Claimed → ℕ → EntriesState
with_entry e records claims refusals = record { records = e.records ++ records ∷ []; claims = e.claims ++ claims ∷ []; refusals = e.refusals ++ refusals ∷ [] }

-- how many pushes of a writer were refused, by the writer's number from 1; none of a writer that isn't there
abbrev pub refusals_in : EntriesState → ℕ → ℕ
refusals_in e writer = if writer == 0 then 0 else unwrap_or (slice_get e.refusals (writer - 1)) 0
