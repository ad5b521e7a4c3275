-- What taking sees and changes.
use Rattle.std.specs.Prelude.{ℕ, List, Option}
use Rattle.dl_events.specs.declared.event.Event.{Event}
use Rattle.dl_outside.specs.Told.{FolderTold}
use Rattle.dl_desk.specs.Told.{ControlTold}
use Rattle.dl_core.specs.State.{Core}
use Rattle.dl_admission.specs.Part.{Part, part}
use Rattle.dl_turns.specs.State as turns
use Rattle.dl_turns.specs.State.{side}
use Rattle.dl_taking.specs.Took.{Took}

-- The core with the events and the folder, what was taken, what the desk tells of levels and injections, and of the journal how many events
-- were noted and how many more it can take.
pub record Side : Type 0 where
  pub part : Part
  pub took : Took
  pub desk : ControlTold
  pub noted : ℕ
  pub spare : ℕ

-- the side of a core, a journal, a folder and a desk, where these are the words for what they tell
abbrev pub seen : {J F D : Type 0} → (J → Option (List Event)) → (J → ℕ) → (J → ℕ) → (F → FolderTold) → (D → Took) → (D → ControlTold) → Core → J → F → D → Side
seen events noted spare folder_told took told core journal folder desk = record {
  part = part core (events journal) (folder_told folder);
  took = took desk;
  desk = told desk;
  noted = noted journal;
  spare = spare journal;
}

-- what of it sees who sets levels
abbrev pub turned : Side → turns.Side
turned s = side s.part.core s.desk s.part.events s.part.folder
