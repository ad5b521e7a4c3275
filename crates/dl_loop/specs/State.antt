-- What contracts see of the daemon.
use Rattle.std.specs.Prelude.{◌≡◌, ℕ, Bool, Some, length, map}
use Rattle.dl_events.specs.Journal.{Journaled}
use Rattle.dl_outside.specs.Links.{Links}
use Rattle.dl_outside.specs.Told.{FolderTold, LinkTold}
use Rattle.dl_desk.specs.QueuedInjections.{rest_of}
use Rattle.dl_desk.specs.State.{DeskState}
use Rattle.dl_desk.specs.Told.{ControlTold, told_by}
use Rattle.dl_core.specs.State.{Core}
use Rattle.dl_turns.specs.State.{side}
use Rattle.dl_rounds.specs.Clients.{Clients}
use Rattle.dl_rounds.specs.ListenerPool.{Seated}

-- The daemon: its core, its desk and its journal; the link of each client, by the clients' numbers from 1, and the listeners in their seats; how many Log
-- and Lost events there may be, and how many there are; how many Claim events there are; how many links were dropped, and whether an accept has
-- failed or wanted memory; whether its own applications have told of themselves; and the core and the desk as they were handed in.
pub record DaemonState (L : Type 0) : Type 0 where
  pub core : Core
  pub desk : DeskState
  pub journal : Journaled
  pub links : Links L
  pub seated : Seated
  pub calls : ℕ
  pub noted : ℕ
  pub claimed : ℕ
  pub dropped : ℕ
  pub failed : Bool
  pub wanted : Bool
  pub greeted : Bool
  pub first_core : Core
  pub first_desk : DeskState

-- what a desk tells of itself
abbrev pub desk_told : DeskState → ControlTold
desk_told desk = told_by (length desk.apps) desk.handles

-- nothing has changed of a desk but levels and injections
abbrev pub SameDesk : DeskState → DeskState → Type 0
SameDesk old new = (record new { handles = rest_of new.handles }) ≡ (record old { handles = rest_of old.handles })

-- what the daemon's rounds see and change, beside this folder
abbrev pub clients_of : {L : Type 0} → (L → LinkTold) → DaemonState L → FolderTold → Clients
clients_of told d folder = record {
  links = map told d.links.links;
  listeners = d.seated.listeners;
  side = side d.core (desk_told d.desk) (Some d.journal.events) folder;
}

-- the daemon of these parts
abbrev pub daemon_of : {L : Type 0} → Core → DeskState → Journaled → Links L → Seated → ℕ → ℕ → ℕ → ℕ → Bool → Bool → Bool → Core → DeskState
    → DaemonState L
daemon_of core desk journal links seated calls noted claimed dropped failed wanted greeted first_core first_desk = record {
  core = core;
  desk = desk;
  journal = journal;
  links = links;
  seated = seated;
  calls = calls;
  noted = noted;
  claimed = claimed;
  dropped = dropped;
  failed = failed;
  wanted = wanted;
  greeted = greeted;
  first_core = first_core;
  first_desk = first_desk;
}
