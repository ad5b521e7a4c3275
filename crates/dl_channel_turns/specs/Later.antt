-- What a program's turn is to the journal.
use Rattle.std.specs.Prelude.{ℕ, List, ◌++◌}
use Rattle.dl_events.specs.declared.event.Event.{Event}
use Rattle.dl_model.specs.Journal.{IsRunning, IsWellFormed}
use Rattle.dl_core.specs.Admission.{AddsEach}
use Rattle.dl_core.specs.Follows.{Adds, IsAfter, Run, source_of}
use Rattle.dl_channel_turns.specs.State.{Side}

-- These events were noted, and no client was stopped in them. The core and the folder are what the longer journal makes of them, and a
-- well-formed journal in which no client was stopped stays well-formed.
pub record IsLater (old new : Side) : Type 0 where
  pub more : List Event
  pub events : AddsEach old.events new.events more
  pub running : IsRunning more
  pub after : Adds more (λ run. Unit {0}) old.core new.core old.folder new.folder
  pub formed : (run : Run) (past : List Event) (taken : ℕ → List ℕ) → IsAfter run past taken old.core → IsRunning past
      → IsWellFormed run.setting (source_of run) past → IsWellFormed run.setting (source_of run) (past ++ more)
