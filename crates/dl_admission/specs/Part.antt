-- What an admission sees and changes.
use Rattle.std.specs.Prelude.{List, Option}
use Rattle.dl_events.specs.declared.event.Event.{Event}
use Rattle.dl_outside.specs.Told.{FolderTold}
use Rattle.dl_core.specs.State.{Core}

-- the core, the events of the journal where it keeps them, and what the folder tells
pub record Part : Type 0 where
  pub core : Core
  pub events : Option (List Event)
  pub folder : FolderTold

abbrev pub part : Core → Option (List Event) → FolderTold → Part
part core events folder = record { core = core; events = events; folder = folder }
