-- What a server is to its journal, in a run.
use Rattle.std.specs.Prelude.{◌≡◌, ℕ, List, ◌++◌, length, None, Some}
use Rattle.dl_core.specs.Follows.{HoldsTrace, IsAfter, Run, source_of}
use Rattle.dl_events.specs.declared.event.Event.{Event}
use Rattle.dl_loop.specs.Holds.{AreTaken}
use Rattle.dl_model.specs.Journal.{IsRunning, IsWellFormed}
use Rattle.dl_registry.specs.Kept.{owed_change}
use Rattle.dl_server.specs.State.{State}

-- The journal keeps these events. The core is what they make of it, for what the clients' links took, where all of these tell it; each client has its
-- link, and no Level event is owed; the journal is well-formed, and while it runs no client was closed in it as at a stop. Where the folder held the
-- trace files that stood before it, it holds those of these events, while the trace goes on.
pub record Holds (Tell Held Runs : Type 0) (run : Run) (events : List Event) (s : State) : Type 0 where
  pub kept : s.events ≡ Some events
  pub took : ℕ → List ℕ
  pub after : IsAfter run events took s.core
  pub taken : Tell → AreTaken s.clients took
  pub many : length s.core.hub.clients ≡ length s.clients
  pub settled : owed_change s.core.registry ≡ None
  pub running : Runs → IsRunning events
  pub formed : IsWellFormed run.setting (source_of run) events
  pub trace : Held → HoldsTrace run events s.core s.folder

-- Whatever journal one state has in a run, the other has it with some events more.
abbrev pub GoesOn : (Tell Held : Type 0) → State → State → Type 0
GoesOn Tell Held old new =
    (run : Run) (events : List Event) → Holds Tell Held (Unit {0}) run events old → (more : List Event) × Holds Tell Held (Unit {0}) run (events ++ more) new

-- the same where the other one runs no longer
abbrev pub GoesOnUntilClosed : (Tell Held : Type 0) → State → State → Type 0
GoesOnUntilClosed Tell Held old new =
    (run : Run) (events : List Event) → Holds Tell Held (Unit {0}) run events old → (more : List Event) × Holds Tell Held ⊥ run (events ++ more) new
