-- What is left once the writers are back, and how all of it is taken.
use Rattle.std.specs.Prelude.{◌≡◌, ℕ, zero, suc, ◌+◌, ◌-◌, ◌*◌, ◌≤◌, min, List, length, count_by}
use Rattle.dl_bytes.specs.Limits.{admitted_limit}
use Rattle.dl_bytes.specs.declared.conf.AppSpec.{AppSpec}
use Rattle.dl_cells.specs.Losses.{reported_of}
use Rattle.dl_ring.specs.Items.{calls_in, claims_in}
use Rattle.dl_cells.specs.Views.{total}
use Rattle.dl_desk.specs.Told.{ControlTold, told_by}
use Rattle.dl_writer.specs.State.{BookState}
use Rattle.dl_account.specs.Books.{books_of, lost_of}
use Rattle.dl_account.specs.State.{ClosingState}
use Rattle.dl_hub.specs.State.{Hub, is_open}
use Rattle.dl_taking.specs.Side.{Side}
use Rattle.dl_taking.specs.Takes.{Reports, TakesSome}
use Rattle.dl_taking.specs.Took.{Took, took_by, untaken}
use Rattle.dl_taking.specs.declared.taking.Got.{Got}

-- what was taken, once the writers are back
abbrev pub closing_took : ClosingState → Took
closing_took closing = took_by closing.handles

-- what it tells of levels and injections
abbrev pub closing_told : ClosingState → ControlTold
closing_told closing = told_by (length closing.apps) closing.handles

-- nothing has changed but what was taken, and what is told of levels and injections
abbrev pub SameButTaken : ClosingState → ClosingState → Type 0
SameButTaken old new = record new { handles = untaken new.handles } ≡ record old { handles = untaken old.handles }

-- ---- what is left

-- how many calls the writers of these books pushed into an application's ring, and how many claims
abbrev pub calls_pushed : ℕ → List BookState → ℕ
calls_pushed app books = total (λ b. length (calls_in b.writer.push.pushed)) (books_of app books)

abbrev pub claims_pushed : ℕ → List BookState → ℕ
claims_pushed app books = total (λ b. length (claims_in b.writer.push.pushed)) (books_of app books)

-- how many of these calls the ring of an application still holds, and how many of these claims
abbrev pub calls_left : List BookState → Took → ℕ → ℕ
calls_left books took app = calls_pushed app books - length (calls_in (took.taken app))

abbrev pub claims_left : List BookState → Took → ℕ → ℕ
claims_left books took app = claims_pushed app books - length (claims_in (took.taken app))

-- how many of its losses were not reported yet
abbrev pub losses_left : List BookState → Took → ℕ → ℕ
losses_left books took app = lost_of app books - reported_of app took.reported

-- how many Log and Lost events tell what is left of an application: one for each call, and one for all losses together
abbrev pub to_note : List BookState → Took → ℕ → ℕ
to_note books took app = calls_left books took app + min 1 (losses_left books took app)

-- how many tell what is left of so many applications, from this number on
abbrev pub to_note_from : List BookState → Took → ℕ → ℕ → ℕ
to_note_from books took app zero = 0
to_note_from books took app (suc more) = to_note books took app + to_note_from books took (app + 1) more

-- how many tell all that is left
abbrev pub all_to_note : ClosingState → ℕ
all_to_note closing = to_note_from closing.books (closing_took closing) 0 (length closing.apps)

-- how many claims are left of so many applications, from this number on
abbrev pub claims_left_from : List BookState → Took → ℕ → ℕ → ℕ
claims_left_from books took app zero = 0
claims_left_from books took app (suc more) = claims_left books took app + claims_left_from books took (app + 1) more

-- how many are left of all
abbrev pub all_claims_left : ClosingState → ℕ
all_claims_left closing = claims_left_from closing.books (closing_took closing) 0 (length closing.apps)

-- So many Log and Lost events may still be noted, and so many Claim events, each with a Level event after it, beside a Close of each open
-- client; and two more events, which a ring's last take may want. Among the Lost events are the reports of so many applications: a report has at
-- most 32,769 frames.
pub record MayNote (events claims reports : ℕ) (hub : Hub) (spare : ℕ) : Type 0 where
  pub spare_so : count_by is_open hub.clients + events + 2 * claims + 2 ≤ spare
  pub few : hub.admitted + events + claims + 32769 * reports ≤ admitted_limit

-- ---- how it is taken

-- some calls of an application were taken together, and a claim after them, where it is told: at most 64
abbrev pub TakesBatch : ℕ → Side → Side → Type 0
TakesBatch app old new = (got : Got) × TakesSome app 64 got old new

-- so many batches, one after the other
abbrev pub TakesOn : ℕ → ℕ → Side → Side → Type 0
TakesOn app zero old new = new ≡ old
TakesOn app (suc count) old new = (next : Side) × TakesOn app count old next × TakesBatch app next new

-- Calls and claims of an application were taken in batches, each noted at one moment, and then its losses, which were told in one report.
pub record DrainsApp (specs : List AppSpec) (app : ℕ) (old new : Side) : Type 0 where
  pub count : ℕ
  pub emptied : Side
  pub takes : TakesOn app count old emptied
  pub lost : ℕ
  pub reports : Reports specs app lost emptied new

-- so were those of the first so many applications, one after the other
abbrev pub DrainsFirst : List AppSpec → ℕ → Side → Side → Type 0
DrainsFirst specs zero old new = new ≡ old
DrainsFirst specs (suc app) old new = (next : Side) × DrainsFirst specs app old next × DrainsApp specs app next new

-- those of all applications
abbrev pub DrainsAll : List AppSpec → Side → Side → Type 0
DrainsAll specs old new = DrainsFirst specs (length specs) old new
