-- The account of all that was logged.
use Rattle.std.specs.Prelude.{◌≡◌, ℕ, ◌-◌, ◌^◌, ◌<◌, ◌≤◌, ◌==◌, List, [], length, map, slice_get, if◌then◌else◌, All}
use Rattle.std.specs.List.{filter, range_with_len}
use Rattle.std.specs.Option.{option_map_or}
use Rattle.dl_bytes.specs.declared.outcome.Ends.{Ends}
use Rattle.dl_events.specs.declared.event.Event.{Event}
use Rattle.dl_events.specs.declared.record.Answer.TheVariants as answer
use Rattle.dl_cells.specs.LevelHistory as levels
use Rattle.dl_cells.specs.Losses.{reported_of}
use Rattle.dl_model.specs.Accounts.{order, takes, of_writer, claims, claimed_by, with_answer, AreTold, WriterAccount}
use Rattle.dl_model.specs.History as journal
use Rattle.dl_model.specs.Report.{reported}
use Rattle.dl_ring.specs.Items.{calls_in, claims_in}
use Rattle.dl_ring.specs.Order.{of}
use Rattle.dl_cells.specs.Views.{times}
use Rattle.dl_desk.specs.QueuedInjections.{pushed_of}
use Rattle.dl_writer.specs.Records.{TellAll}
use Rattle.dl_writer.specs.State.{IsWhole, BookState, numbers}
use Rattle.dl_account.specs.Books.{books_of, lost_of, records_of}
use Rattle.dl_account.specs.Known.{AreClaimed, AreGivenOnce, IsAllOf, taken_of, told_as}
use Rattle.dl_account.specs.State.{AccountState, ClosingState}

-- the account of the daemon's side, which its events and its ends are added to
abbrev pub account_of : ClosingState → List Event → Ends → AccountState
account_of s events outcome = record { apps = s.apps; handles = s.handles; books = s.books; events = events; outcome = outcome }

-- What an account tells: the writers are numbered from 1; what was taken of each ring is all that its writers pushed, of
-- each in its order; the losses that were reported are those that they counted, and of no application as many as 2^47; each
-- level that they read was set in its slot at its version; each injection was given once or is left; the places that they
-- claimed differ; and the records and the claims of a whole book tell all that its writer did.
pub record IsSettled (s : AccountState) : Type 0 where
  pub numbered : numbers s.books ≡ range_with_len 1 (length s.books)
  pub owned : All (λ b. b.writer.app < length s.apps) s.books
  pub taken : (app : ℕ) → app < length s.apps → IsAllOf app s.books (taken_of s.handles app)
  pub reported : (app : ℕ) → app < length s.apps → reported_of app s.handles.losses.reported ≡ lost_of app s.books
  pub small : (app : ℕ) → reported_of app s.handles.losses.reported < 2 ^ 47
  pub held : All (λ b. All (levels.IsEntry s.handles.levels.first s.handles.levels.sets) b.writer.reader.reads) s.books
  pub given : (app : ℕ) → app < length s.apps → (left : ℕ) × AreGivenOnce app s.books (pushed_of s.handles app) left
  pub claimed : (app : ℕ) → app < length s.apps → AreClaimed app s.books
  pub told : All (λ b. IsWhole b → TellAll b.writer b.records b.claims) s.books

-- what was lost of an application, by its records and by what was reported of it
abbrev pub TellsLosses : AccountState → ℕ → Type 0
TellsLosses s app = reported_of app s.handles.losses.reported ≡ length (with_answer answer.Lost (records_of app s.books))

-- the calls that were taken of a writer's ring are, restricted to it, its queued records
abbrev pub TellsQueued : AccountState → BookState → Type 0
TellsQueued s b = calls_in (of b.writer.push.number (taken_of s.handles b.writer.app)) ≡ map (λ r. r.item) (with_answer answer.Queued b.records)

-- the claims that were are those that its book kept
abbrev pub TellsClaimed : AccountState → BookState → Type 0
TellsClaimed s b = claims_in (of b.writer.push.number (taken_of s.handles b.writer.app)) ≡ b.claims

-- A journal says what the daemon did: the levels that it gives each slot are those that were set; it tells the calls and the
-- claims that were taken, in their order; it tells the losses that were reported; and it speaks of no other application.
pub record IsJournalOf (events : List Event) (s : AccountState) : Type 0 where
  pub set : (slot : ℕ) → journal.history events slot ≡ levels.history slot s.handles.levels.sets
  pub admitted : (app : ℕ) → app < length s.apps → takes app events ≡ map (told_as app) (taken_of s.handles app)
  pub losses : (app : ℕ) → app < length s.apps → reported app events ≡ reported_of app s.handles.losses.reported
  pub alone : (app : ℕ) → length s.apps ≤ app → (takes app events ≡ []) × (reported app events ≡ 0)

-- The records, the claims and such a journal are the account of all writers: of each of its own calls and claims, and of each
-- application of its losses. No others are in it.
pub record IsAccountOf (events : List Event) (s : AccountState) : Type 0 where
  pub each : All (λ b. WriterAccount s.handles.levels.first events b.writer.app b.writer.push.number b.writer.push.refusals b.claims b.records) s.books
  pub no_others : (app writer : ℕ) → app < length s.apps → times writer (numbers (books_of app s.books)) ≡ 0 → filter (of_writer writer) (order app events) ≡ []
  pub no_claims : (app writer : ℕ) → app < length s.apps → times writer (numbers (books_of app s.books)) ≡ 0 → filter (claimed_by writer) (claims app events) ≡ []
  pub told : (app : ℕ) → app < length s.apps → AreTold app events 0 (records_of app s.books)

-- the pushes of a writer that its ring refused, by the writer's number from 1; none of a writer that isn't there
abbrev pub refusals_of : List BookState → ℕ → ℕ
refusals_of books writer = if writer == 0 then 0 else option_map_or (λ b. b.writer.push.refusals) (slice_get books (writer - 1)) 0
