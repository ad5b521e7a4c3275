-- What a round does with those who are there.
use Rattle.std.specs.Prelude.{◌≡◌, ◌⊎◌, Bool, true, false, length, None}
use Rattle.dl_bytes.specs.declared.moment.Moment.{Moment}
use Rattle.dl_hub.specs.State.{IsNextOpen}
use Rattle.dl_registry.specs.Kept.{owed_change}
use Rattle.dl_rounds.specs.Partings.{ShutsGone}
use Rattle.dl_rounds.specs.Visits.{HearsAll, PumpsAll}
use Rattle.dl_channels.specs.Rounds as programs
use Rattle.dl_socket.specs.Listening.{HaveServed}
use Rattle.dl_server.specs.State.{State, clients_of, scene_of, with_want}

-- Room was made in the journal; or memory was wanting for it, where it may be, and nothing else has changed.
abbrev pub MakesRoom : Bool → State → State → Type 0
MakesRoom true old new = new ≡ old
MakesRoom false old new = (new ≡ with_want old) × (old.may_run_out ≡ true)

-- Each open client was listened to, and the levels that requests set are told the programs that have their contexts. Each client has its link, and no
-- Level event is owed then.
pub record HearsClients (moved : Bool) (old new : State) : Type 0 where
  pub serves : HaveServed (HearsAll moved) old.core.registry (clients_of old) (clients_of new) old.channels new.channels
  pub many : length new.core.hub.clients ≡ length new.clients
  pub settled : owed_change new.core.registry ≡ None
  pub rest : new ≡ record old {
    core = new.core;
    events = new.events;
    folder = new.folder;
    clients = new.clients;
    listeners = new.listeners;
    channels = new.channels;
  }

-- none is open, or some are, and there was no room for their Closes; else they were
abbrev pub HearsClientsIfMay : Bool → State → State → Type 0
HearsClientsIfMay moved old new =
    ((moved ≡ false) × IsNextOpen old.core.hub 0 None × (new ≡ old)) ⊎ ((moved ≡ false) × (new ≡ with_want old) × (IsNextOpen old.core.hub 0 None → ⊥) × (old.may_run_out ≡ true))
    ⊎ HearsClients moved old new

-- each channel was listened to
pub record HearsPrograms (moment : Moment) (moved : Bool) (old new : State) : Type 0 where
  pub hears : programs.HearsAll moment moved (scene_of old) (scene_of new)
  pub rest : new ≡ record old {
    core = new.core;
    events = new.events;
    folder = new.folder;
    channels = new.channels;
    programs = new.programs;
    ends = new.ends;
  }

-- Each open client was sent what waits for it. Each client has its link, and no Level event is owed then.
pub record PumpsClients (moved : Bool) (old new : State) : Type 0 where
  pub pumps : PumpsAll moved old.clients new.clients old.core new.core old.events new.events
  pub many : length new.core.hub.clients ≡ length new.clients
  pub settled : owed_change new.core.registry ≡ None
  pub rest : new ≡ record old { core = new.core; events = new.events; clients = new.clients }

-- they were not where there was no room for their Closes
abbrev pub PumpsClientsIfMay : Bool → State → State → Type 0
PumpsClientsIfMay moved old new = ((moved ≡ false) × (new ≡ with_want old) × (old.may_run_out ≡ true)) ⊎ PumpsClients moved old new

-- each channel was sent what waits for it
pub record PumpsPrograms (moment : Moment) (old new : State) : Type 0 where
  pub pumps : programs.PumpsAll moment (scene_of old) (scene_of new)
  pub rest : new ≡ record old {
    core = new.core;
    events = new.events;
    folder = new.folder;
    channels = new.channels;
    programs = new.programs;
    ends = new.ends;
  }

-- the links of clients that are gone were shut
pub record PartsClients (old new : State) : Type 0 where
  pub shuts : ShutsGone old.core.hub old.clients new.clients
  pub rest : new ≡ record old { clients = new.clients }
