-- What was taken of the rings and loss words of applications.
use Rattle.std.specs.Prelude.{ℕ, ◌+◌, ◌<◌, ◌==◌, Bool, List, [], ◌∷◌, ◌++◌, map, slice_get, unwrap_or, if◌then◌else◌}
use Rattle.std.specs.Option.{option_map}
use Rattle.dl_cells.specs.Losses.{report, reported_of}
use Rattle.dl_cells.specs.declared.loss_keeper.Report.{Report}
use Rattle.dl_ring.specs.declared.item.RingItem.{RingItem}
use Rattle.dl_desk.specs.declared.app_handles.AppHandles.{AppHandles}
use Rattle.dl_desk.specs.Handles.{HandlesState}
use Rattle.dl_desk.specs.QueuedInjections.{rest_of}
use Rattle.dl_account.specs.Books.{lost_of}
use Rattle.dl_account.specs.Known.{taken_of}
use Rattle.dl_account.specs.State.{ClosingState}

-- the calls and claims that were taken of each application's ring, in order, and the losses that were reported
pub record Took : Type 0 where
  pub taken : ℕ → List RingItem
  pub reported : List Report

-- what these handles took
abbrev pub took_by : HandlesState → Took
took_by handles = record { taken = taken_of handles; reported = handles.losses.reported }

-- how often a take found the ring of an application empty
abbrev pub empties_of : HandlesState → ℕ → ℕ
empties_of handles app = unwrap_or (option_map (λ e. e.ring.empties) (slice_get handles.apps app)) 0

-- of these counts that of an application is one more
abbrev pub with_empty : ℕ → (ℕ → ℕ) → ℕ → ℕ
with_empty app empties = λ other. if other == app then empties other + 1 else empties other

-- so it is where the last take found its ring empty
abbrev pub empties_now : ℕ → Bool → (ℕ → ℕ) → ℕ → ℕ
empties_now app none empties = if none then with_empty app empties else empties

-- these calls and claims more were taken of an application's ring
abbrev pub with_items : ℕ → List RingItem → Took → Took
with_items app items took = record took { taken = λ other. if other == app then took.taken other ++ items else took.taken other }

-- the losses of an application were taken once more: so many
abbrev pub with_losses : ℕ → ℕ → Took → Took
with_losses app count took = record took { reported = took.reported ++ report app count ∷ [] }

-- ---- what a call that takes leaves as it was

-- all but what its pass took, and how often it found nothing
abbrev pub without_takes : AppHandles → AppHandles
without_takes e = record e { ring = record e.ring { taken = []; empties = 0 } }

-- all but what was taken of rings and loss words
abbrev pub without_taken : HandlesState → HandlesState
without_taken handles = record handles { apps = map without_takes handles.apps; losses = record handles.losses { reported = [] } }

-- all but that, the levels that were set, and what the queues of injections took and refused; of these a desk tells
abbrev pub untaken : HandlesState → HandlesState
untaken handles = without_taken (rest_of handles)

-- of an application whose writers are back fewer losses were reported than they counted
abbrev pub HasLosses : ClosingState → ℕ → Type 0
HasLosses closing app = reported_of app closing.handles.losses.reported < lost_of app closing.books
