-- The books of all writers, application by application.
use Rattle.std.specs.Prelude.{ℕ, ◌-◌, ◌^◌, ◌==◌, min, List, length, map}
use Rattle.std.specs.List.{filter, flat_map, range_with_len}
use Rattle.dl_bytes.specs.Claim.{Claimed}
use Rattle.dl_events.specs.declared.record.Record.{Record}
use Rattle.dl_cells.specs.Losses.{counted_of}
use Rattle.dl_ring.specs.Items.{claims_in}
use Rattle.dl_cells.specs.Views.{total}
use Rattle.dl_writer.specs.State.{BookState}

-- those of an application's writers, in the order of their numbers
abbrev pub books_of : ℕ → List BookState → List BookState
books_of app books = filter (λ b. b.writer.app == app) books

-- how many calls and claims the application's ring took, of all its writers
abbrev pub items_pushed_of : ℕ → List BookState → ℕ
items_pushed_of app books = total (λ b. length b.writer.push.pushed) (books_of app books)

-- how many of its lost calls the writers counted
abbrev pub lost_of : ℕ → List BookState → ℕ
lost_of app books = total (λ b. counted_of app b.writer.losses.counted) books

-- how many injections its writers were given
abbrev pub injected_of : ℕ → List BookState → ℕ
injected_of app books = total (λ b. length b.writer.injections.taken) (books_of app books)

-- that of each application, in 64 bits
abbrev pub given_by : ℕ → List BookState → List ℕ
given_by apps books = map (λ app. min (2 ^ 64 - 1) (injected_of app books)) (range_with_len 0 apps)

-- how often its writers asked for a context with an id and a description within the limits
abbrev pub registers_of : ℕ → List BookState → ℕ
registers_of app books = total (λ b. b.writer.registers) (books_of app books)

-- the claims that its ring took, one writer's after the other's
abbrev pub claimed_of : ℕ → List BookState → List Claimed
claimed_of app books = flat_map (λ b. claims_in b.writer.push.pushed) (books_of app books)

-- the records of its writers, one writer's after the other's
abbrev pub records_of : ℕ → List BookState → List Record
records_of app books = flat_map (λ b. b.records) (books_of app books)
