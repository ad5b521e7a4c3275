-- What a stop sees and changes.
use Rattle.std.specs.Prelude.{List, Some, length, map}
use Rattle.dl_events.specs.Journal.{Journaled}
use Rattle.dl_outside.specs.Links.{Links}
use Rattle.dl_outside.specs.Told.{FolderTold, LinkTold}
use Rattle.dl_account.specs.State.{ClosingState}
use Rattle.dl_core.specs.State.{Core}
use Rattle.dl_admission.specs.Part.{part}
use Rattle.dl_taking.specs.Draining.{closing_told, closing_took}
use Rattle.dl_taking.specs.Side as taking
use Rattle.dl_turns.specs.State.{side}
use Rattle.dl_rounds.specs.Clients.{Clients}
use Rattle.dl_rounds.specs.ListenerPool.{Seated}
use Rattle.dl_rounds.specs.declared.listener.Listener.{Listener}
use Rattle.dl_settling.specs.declared.parts.Parts.{Parts}

-- the core, what stands for the desk, the journal, the link of each client, and the listeners of clients in their seats
pub record Stopping (L : Type 0) : Type 0 where
  pub core : Core
  pub closing : ClosingState
  pub journal : Journaled
  pub links : Links L
  pub seated : Seated

-- those that a stop is handed
abbrev pub stopping_of : {L : Type 0} → Parts L → Stopping L
stopping_of parts = record { core = parts.core; closing = parts.closing; journal = parts.journal; links = parts.links; seated = parts.seats }

-- what is seen of it where calls, claims and losses are taken, beside this folder
abbrev pub taking_of : {L : Type 0} → Stopping L → FolderTold → taking.Side
taking_of s folder = record {
  part = part s.core (Some s.journal.events) folder;
  took = closing_took s.closing;
  desk = closing_told s.closing;
  noted = length s.journal.events;
  spare = s.journal.spare;
}

-- and where clients are closed
abbrev pub clients_of : {L : Type 0} → (L → LinkTold) → Stopping L → FolderTold → Clients
clients_of told s folder = record {
  links = map told s.links.links;
  listeners = s.seated.listeners;
  side = side s.core (closing_told s.closing) (Some s.journal.events) folder;
}

-- clients with these links and listeners, where calls, claims and losses are taken
abbrev pub clients_at : List LinkTold → List Listener → taking.Side → Clients
clients_at links listeners s = record { links = links; listeners = listeners; side = taking.turned s }
