-- What a turn sees and changes: the daemon's side, and its client's link and cutter.
use Rattle.std.specs.Prelude.{List, Option}
use Rattle.dl_events.specs.declared.event.Event.{Event}
use Rattle.dl_message.specs.Cutting.{Cutting}
use Rattle.dl_outside.specs.Told.{FolderTold, LinkTold}
use Rattle.dl_desk.specs.Told.{ControlTold}
use Rattle.dl_core.specs.State.{Core}

-- The daemon's side: the core, what the desk tells, the events of the journal where it keeps them, and what the folder tells.
pub record Side : Type 0 where
  pub core : Core
  pub desk : ControlTold
  pub events : Option (List Event)
  pub folder : FolderTold

-- the side of these parts
abbrev pub side : Core → ControlTold → Option (List Event) → FolderTold → Side
side core desk events folder = record { core = core; desk = desk; events = events; folder = folder }

-- what a client's link tells, what its cutter holds, and the daemon's side
pub record Stage : Type 0 where
  pub link : LinkTold
  pub cutter : Cutting
  pub side : Side

-- the stage of these parts
abbrev pub stage : LinkTold → Cutting → Core → ControlTold → Option (List Event) → FolderTold → Stage
stage link cutter core desk events folder = record { link = link; cutter = cutter; side = side core desk events folder }

-- the stage of a link, a cutter, a core, a desk, a journal and a folder, where these are the words for what they tell
abbrev pub seen : {L D J F : Type 0} → (L → LinkTold) → (D → ControlTold) → (J → Option (List Event)) → (F → FolderTold) → L → Cutting → Core → D → J → F → Stage
seen link_told desk_told events folder_told link cutter core desk journal folder = stage (link_told link) cutter core (desk_told desk) (events journal) (folder_told folder)
