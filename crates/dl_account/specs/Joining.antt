-- How the handles of all writers are taken back: one writer at a time, and then the handles from which theirs were split.
use Rattle.std.specs.Prelude.{◌≡◌, ℕ, ◌+◌, ◌<◌, nat_lt, true, List, [], ◌∷◌, ◌++◌, length, map}
use Rattle.dl_cells.specs.Claims.{given_of, refused_of}
use Rattle.dl_cells.specs.LevelStates.{KeeperState}
use Rattle.dl_ring.specs.declared.view.Sent.{Sent}
use Rattle.dl_cells.specs.Views.{bit, times}
use Rattle.dl_desk.specs.declared.app_handles.AppHandles.{AppHandles}
use Rattle.dl_desk.specs.declared.app_handles.FirstHandles.{FirstHandles}
use Rattle.dl_desk.specs.Lists.{At}
use Rattle.dl_desk.specs.Handles.{HandlesState, with_passes, with_words}
use Rattle.dl_writer.specs.State.{WriterState, BookState}

-- ---- what can be taken back

-- The writer's application is there, and its handles are of the same ring, queue and words as the daemon's.
pub record FitsHandles (s : HandlesState) (w : WriterState) : Type 0 where
  pub app : w.app < length s.apps
  pub ring : At s.apps w.app (λ e. w.push.ring ≡ e.ring.ring)
  pub queue : At s.apps w.app (λ e. w.injections.queue ≡ e.queue.queue)
  pub levels : w.reader.table ≡ s.levels.table
  pub claims : w.reader.claims ≡ s.levels.claims
  pub losses : w.losses.table ≡ s.losses.table

-- there are first handles for each application, of its ring and its queue
pub record FitFirsts (s : HandlesState) (firsts : List FirstHandles) : Type 0 where
  pub long : length firsts ≡ length s.apps
  pub each : (app : ℕ) → At firsts app (λ f. At s.apps app (λ e. (f.push.ring ≡ e.ring.ring) × (f.injections.queue ≡ e.queue.queue)))

-- ---- one at a time

-- the daemon's handles, once this writer was taken back
abbrev pub join_writer : HandlesState → WriterState → HandlesState
join_writer s w = with_words (with_passes s w.app w.push w.injections) w.reader w.losses

-- once the writers of these books were, in order
abbrev pub join_books : HandlesState → List BookState → HandlesState
join_books s [] = s
join_books s (b ∷ books) = join_books (join_writer s b.writer) books

-- once the first handles of the applications from this number on were, the last application's first
abbrev pub join_firsts : ℕ → List FirstHandles → HandlesState → HandlesState
join_firsts app [] s = s
join_firsts app (f ∷ firsts) s = with_passes (join_firsts (app + 1) firsts s) app f.push f.injections

-- ---- what is there once all are taken back

-- what a ring's taker knows of a writer that was taken back
abbrev pub sent_of : BookState → Sent
sent_of b = record { number = b.writer.push.number; items = b.writer.push.pushed }

-- An application's ring and queue got back the passes of these writers, in order, and then the first ones, which had made
-- no others.
pub record AreBack (books : List BookState) (e : AppHandles) : Type 0 where
  pub ring : e.ring.joined ≡ map sent_of books ++ (record { number = 0; items = [] }) ∷ []
  pub ring_first : e.ring.first ≡ true
  pub given : length e.ring.given ≡ length books
  pub queue : e.queue.joined ≡ map (λ b. b.writer.injections.taken) books ++ [] ∷ []
  pub queue_first : e.queue.first ≡ true
  pub splits : e.queue.splits ≡ length books

-- So many numbers of an application were given: each below this one to one reader, once, and all 64 where a claim found none
-- left.
pub record AreGiven (app count : ℕ) (levels : KeeperState) : Type 0 where
  pub once : (n : ℕ) → times n (given_of app levels.given) ≡ bit (nat_lt n count)
  pub long : length (given_of app levels.given) ≡ count
  pub full : 0 < refused_of app levels.refused → count ≡ 64
