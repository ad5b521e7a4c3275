-- The fields of the daemon's side once all writers are back, and what is true of them.
use Rattle.std.specs.Prelude.{◌≡◌, ℕ, ◌+◌, ◌^◌, ◌<◌, ◌≤◌, List, length, All, slice_index}
use Rattle.std.specs.List.{range_with_len}
use Rattle.dl_ring.specs.InjectionOrder as queue
use Rattle.dl_cells.specs.LevelHistory.{IsEntry}
use Rattle.dl_cells.specs.Losses.{counted_of, reported_of}
use Rattle.dl_cells.specs.Views.{all_shares}
use Rattle.dl_ring.specs.declared.item.RingItem.{RingItem}
use Rattle.dl_ring.specs.Order.{Holds}
use Rattle.dl_desk.specs.Lists.{At}
use Rattle.dl_writer.specs.Records.{TellAll}
use Rattle.dl_writer.specs.State.{BookState, IsWhole, numbers}
use Rattle.dl_account.specs.declared.closing.Closing.TheInside as closing
use Rattle.dl_account.specs.Books.{books_of, given_by, items_pushed_of, lost_of}
use Rattle.dl_account.specs.Entries.{EntriesState, entries_of}
use Rattle.dl_account.specs.Joining.{AreBack}
use Rattle.dl_account.specs.Known.{AreClaimed}
use Rattle.dl_account.specs.State.{ClosingState}

abbrev pub closing_state : closing.Inside → ClosingState
closing_state c = record { apps = c.apps; handles = c.handles; books = c.books.value }

-- the writers that are back, and what they did
pub record HaveBooks (apps : ℕ) (books : List BookState) : Type 0 where
  pub numbered : numbers books ≡ range_with_len 1 (length books)
  pub few : length books ≤ 32
  pub owned : All (λ b. b.writer.app < apps) books
  pub claimed : (app : ℕ) → app < apps → AreClaimed app books
  pub told : All (λ b. IsWhole b → TellAll b.writer b.records b.claims) books

-- their handles are back, and each ring and queue was looked at since
pub record HaveHandles (s : ClosingState) : Type 0 where
  pub few : length s.apps ≤ 16
  pub handles : length s.handles.apps ≡ length s.apps
  pub back : (app : ℕ) → At s.handles.apps app (AreBack (books_of app s.books))
  pub rings : (app : ℕ) → At s.handles.apps app (λ e. (contents : List RingItem) × Holds e.ring contents)
  pub queues : (app : ℕ) → At s.handles.apps app (λ e. (left : ℕ) × queue.Holds e.queue left)
  pub range : (app : ℕ) → At s.handles.apps app (λ e. length e.queue.pushed < 2 ^ 64)
  pub levels : All (λ b. All (IsEntry s.handles.levels.first s.handles.levels.sets) b.writer.reader.reads) s.books
  pub shares : s.handles.losses.shares ≡ all_shares
  pub counted : (app : ℕ) → counted_of app s.handles.losses.counted ≡ lost_of app s.books

-- the counters say how many calls and claims wait in each ring, how many losses in each word, and how many injections were given
pub record AreCounted (s : ClosingState) (items losses injected : List ℕ) : Type 0 where
  pub waiting : (app : ℕ) → At s.handles.apps app (λ e. length e.ring.taken + slice_index items app ≡ items_pushed_of app s.books)
  pub untold : (app : ℕ) → app < length s.apps → reported_of app s.handles.losses.reported + slice_index losses app ≡ lost_of app s.books
  pub given : injected ≡ given_by (length s.apps) s.books

pub record IsClosing (s : ClosingState) (items losses injected : List ℕ) (entries : EntriesState) : Type 0 where
  pub books : HaveBooks (length s.apps) s.books
  pub handles : HaveHandles s
  pub counts : AreCounted s items losses injected
  pub kept : entries ≡ entries_of s.books

abbrev pub is_closing : closing.Inside → Type 0
is_closing c = IsClosing (closing_state c) c.items c.losses c.injected.items c.entries
