-- How the daemon's side is made once all writers are back.
use Rattle.std.specs.Prelude.{◌≡◌, ℕ, ◌≤◌, List, length, map, All, Contains}
use Rattle.std.specs.List.{range_with_len}
use Rattle.dl_cells.specs.Views.{times}
use Rattle.dl_desk.specs.Made.{IsMadeWith}
use Rattle.dl_desk.specs.State.{DeskState}
use Rattle.dl_writer.specs.State.{BookState, numbers}
use Rattle.dl_account.specs.State.{ClosingState}

-- the writers of one application have the same base: it had as many contexts when each of them was made
abbrev pub SameBases : List BookState → Type 0
SameBases books = All (λ b. All (λ c. b.writer.app ≡ c.writer.app → b.writer.base ≡ c.writer.base) books) books

-- each book's writer was made with the desk, so no two have one number; and those of one application have the same base
pub record AreMadeWith (desk : DeskState) (books : List BookState) : Type 0 where
  pub each : All (λ b. IsMadeWith desk b.writer) books
  pub apart : (number : ℕ) → times number (numbers books) ≤ 1
  pub bases : SameBases books

-- the book of this writer is among them
abbrev pub IsAmong : List BookState → ℕ → Type 0
IsAmong books number = 1 ≤ times number (numbers books)

-- the books of all these writers, numbered from 1, are
abbrev pub AreAmong : List BookState → ℕ → Type 0
AreAmong books made = (number : ℕ) → 1 ≤ number → number ≤ made → IsAmong books number

-- a writer that was made isn't
pub record IsMissing (books : List BookState) (made : ℕ) : Type 0 where
  pub number : ℕ
  pub low : 1 ≤ number
  pub high : number ≤ made
  pub none : times number (numbers books) ≡ 0

-- they are the books of the writers with the numbers from 1 to this one, each once
pub record AreNumberedTo (made : ℕ) (books : List BookState) : Type 0 where
  pub all : AreAmong books made
  pub apart : (number : ℕ) → times number (numbers books) ≤ 1
  pub range : All (λ b. (1 ≤ b.writer.push.number) × (b.writer.push.number ≤ made)) books

-- the same books, by their writers' numbers from 1
pub record AreInOrder (books ordered : List BookState) : Type 0 where
  pub numbered : numbers ordered ≡ range_with_len 1 (length ordered)
  pub long : length ordered ≡ length books
  pub all : All (Contains ordered) books
  pub same : All (Contains books) ordered

-- what the daemon took, reported, set and injected stays as it was
pub record KeepsDesk (desk : DeskState) (s : ClosingState) : Type 0 where
  pub apps : s.apps ≡ desk.apps
  pub taken : map (λ e. e.ring.taken) s.handles.apps ≡ map (λ e. e.ring.taken) desk.handles.apps
  pub empties : map (λ e. e.ring.empties) s.handles.apps ≡ map (λ e. e.ring.empties) desk.handles.apps
  pub pushed : map (λ e. e.queue.pushed) s.handles.apps ≡ map (λ e. e.queue.pushed) desk.handles.apps
  pub refusals : map (λ e. e.queue.refusals) s.handles.apps ≡ map (λ e. e.queue.refusals) desk.handles.apps
  pub first : s.handles.levels.first ≡ desk.handles.levels.first
  pub sets : s.handles.levels.sets ≡ desk.handles.levels.sets
  pub reported : s.handles.losses.reported ≡ desk.handles.losses.reported

-- made of the desk and of the books of all its writers
pub record IsMadeOf (desk : DeskState) (books : List BookState) (s : ClosingState) : Type 0 where
  pub all : AreAmong books (length desk.owners)
  pub order : AreInOrder books s.books
  pub kept : KeepsDesk desk s
