-- A daemon with its folder, between two steps of a round.
use Rattle.std.specs.Prelude.{length, Some}
use Rattle.dl_outside.specs.Told.{FolderTold}
use Rattle.dl_admission.specs.Part.{part}
use Rattle.dl_taking.specs.Side as taking
use Rattle.dl_taking.specs.Took.{took_by}
use Rattle.dl_turns.specs.State as turns
use Rattle.dl_loop.specs.State.{DaemonState, desk_told}

-- the daemon, and what the folder tells
pub record Scene (L : Type 0) : Type 0 where
  pub daemon : DaemonState L
  pub folder : FolderTold

abbrev pub scene : {L : Type 0} → DaemonState L → FolderTold → Scene L
scene daemon folder = record { daemon = daemon; folder = folder }

-- what is seen of it where calls, claims and losses are taken
abbrev pub taking_of : {L : Type 0} → Scene L → taking.Side
taking_of s = record {
  part = part s.daemon.core (Some s.daemon.journal.events) s.folder;
  took = took_by s.daemon.desk.handles;
  desk = desk_told s.daemon.desk;
  noted = length s.daemon.journal.events;
  spare = s.daemon.journal.spare;
}

-- what is seen of it where the daemon's own applications are greeted
abbrev pub side_of : {L : Type 0} → Scene L → turns.Side
side_of s = turns.side s.daemon.core (desk_told s.daemon.desk) (Some s.daemon.journal.events) s.folder
