-- What is known of rings, queues, levels, losses and claims once all writers are taken back.
use Rattle.std.specs.Prelude.{◌≡◌, ℕ, ◌+◌, ◌<◌, ◌≤◌, nat_eq, nat_lt, List, [], ◌++◌, length, map, All, slice_get, unwrap_or}
use Rattle.std.specs.List.{range_with_len, IsDistinct}
use Rattle.std.specs.Option.{option_map}
use Rattle.dl_bytes.specs.declared.item.Injection.{Injection}
use Rattle.dl_ring.specs.InjectionOrder.{IsPart, times_in}
use Rattle.dl_cells.specs.LevelHistory.{IsEntry}
use Rattle.dl_cells.specs.Losses.{reported_of}
use Rattle.dl_model.specs.Accounts.{Took, TookCall, TookClaim}
use Rattle.dl_ring.specs.declared.item.RingItem.{RingItem}
use Rattle.dl_ring.specs.declared.item.RingItem.TheVariants.{Log, Register}
use Rattle.dl_ring.specs.Order.{of}
use Rattle.dl_cells.specs.Views.{bit, times}
use Rattle.dl_desk.specs.Handles.{HandlesState}
use Rattle.dl_desk.specs.QueuedInjections.{pushed_of}
use Rattle.dl_writer.specs.Records.{TellAll}
use Rattle.dl_writer.specs.State.{BookState, IsWhole, numbers}
use Rattle.dl_account.specs.Books.{books_of, claimed_of, items_pushed_of, lost_of, injected_of, registers_of}
use Rattle.dl_account.specs.State.{ClosingState}

-- what was taken of an application's ring, in order
abbrev pub taken_of : HandlesState → ℕ → List RingItem
taken_of s app = unwrap_or (option_map (λ e. e.ring.taken) (slice_get s.apps app)) []

-- what the daemon tells of an item that it took of this application's ring: a claim is told as one of that application
abbrev pub told_as : ℕ → RingItem → Took
told_as app (Log item) = TookCall item.writer item.call
told_as app (Register claim) = TookClaim (record claim { app = app })

-- What was taken of an application's ring, followed by what it holds, is what its writers pushed: of each its calls and
-- claims in their order, and of no one else any.
pub record IsAllOf (app : ℕ) (books : List BookState) (items : List RingItem) : Type 0 where
  pub each : All (λ b. of b.writer.push.number items ≡ b.writer.push.pushed) (books_of app books)
  pub no_others : (number : ℕ) → times number (numbers (books_of app books)) ≡ 0 → of number items ≡ []
  pub count : length items ≡ items_pushed_of app books

-- Each of an application's writers was given a part of what was pushed into its queue, in order. Each injection was given
-- to one of them, once, or is one of the last, which are left.
pub record AreGivenOnce (app : ℕ) (books : List BookState) (pushed : List Injection) (left : ℕ) : Type 0 where
  pub parts : All (λ b. IsPart pushed b.writer.injections.taken) (books_of app books)
  pub once : (number : ℕ) → times_in number (map (λ b. b.writer.injections.taken) (books_of app books)) ≡ bit (nat_lt (number + left) (length pushed))
  pub count : injected_of app books + left ≡ length pushed
  pub room : left ≤ 16

-- The claims of an application's writers that its ring took are on different places, each on one of the 64. Where a writer
-- was refused a place, its writers made more `register` calls, together, than places were left beside the declared contexts.
pub record AreClaimed (app : ℕ) (books : List BookState) : Type 0 where
  pub apart : IsDistinct nat_eq (map (λ c. c.place) (claimed_of app books))
  pub within : All (λ c. (c.place < 64) × (c.app ≡ app)) (claimed_of app books)
  pub full : All (λ b. 0 < b.writer.table_full → 64 < registers_of app books + b.writer.base) (books_of app books)

-- All that is known once the writers are taken back: they are numbered from 1, each of an application that is there; what
-- the rings and the queues handed on is theirs; each level that they read was set in its slot at its version; no losses
-- are reported that they didn't count; the places that they claimed differ; and the records and the claims of each whole book
-- tell all that its writer did.
pub record AreGathered (s : ClosingState) : Type 0 where
  pub numbered : numbers s.books ≡ range_with_len 1 (length s.books)
  pub owned : All (λ b. b.writer.app < length s.apps) s.books
  pub rings : (app : ℕ) → app < length s.apps → (contents : List RingItem) × IsAllOf app s.books (taken_of s.handles app ++ contents)
  pub queues : (app : ℕ) → app < length s.apps → (left : ℕ) × AreGivenOnce app s.books (pushed_of s.handles app) left
  pub levels : All (λ b. All (IsEntry s.handles.levels.first s.handles.levels.sets) b.writer.reader.reads) s.books
  pub losses : (app : ℕ) → app < length s.apps → reported_of app s.handles.losses.reported ≤ lost_of app s.books
  pub claimed : (app : ℕ) → app < length s.apps → AreClaimed app s.books
  pub told : All (λ b. IsWhole b → TellAll b.writer b.records b.claims) s.books

-- ---- whether all was taken

-- the ring of an application is empty: as many calls and claims were taken as its writers pushed
abbrev pub IsEmpty : ClosingState → ℕ → Type 0
IsEmpty s app = length (taken_of s.handles app) ≡ items_pushed_of app s.books

-- its loss word is 0: as many losses were reported as its writers counted
abbrev pub IsTold : ClosingState → ℕ → Type 0
IsTold s app = reported_of app s.handles.losses.reported ≡ lost_of app s.books

-- every ring is empty, and every loss word 0
abbrev pub IsDrained : ClosingState → Type 0
IsDrained s = (app : ℕ) → app < length s.apps → IsEmpty s app × IsTold s app
