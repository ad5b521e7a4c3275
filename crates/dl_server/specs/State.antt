-- What is seen of a server between two steps.
use Rattle.std.specs.Prelude.{ℕ, Bool, true, List, map, Option}
use Rattle.dl_admission.specs.Part.{part}
use Rattle.dl_channel.specs.declared.outcome.ChannelEnd.{ChannelEnd}
use Rattle.dl_core.specs.State.{Core}
use Rattle.dl_desk.specs.Told.{ControlTold}
use Rattle.dl_events.specs.declared.event.Event.{Event}
use Rattle.dl_outside.specs.Told.{FolderTold, LinkTold}
use Rattle.dl_rounds.specs.Clients.{Clients}
use Rattle.dl_rounds.specs.declared.listener.Listener.{Listener}
use Rattle.dl_channels.specs.Rounds.{Scene}
use Rattle.dl_socket.specs.Channels.{Channels}
use Rattle.dl_turns.specs.State.{side}
use Rattle.dl_server.specs.declared.server.Server.{Server}

-- The core, the events where the journal keeps them, and what the folder tells; what the clients' links tell, by number, and their listeners; the
-- channels, what their links tell, and why each has ended, by number; how many links were dropped; whether an accept of a client, and one of a
-- program, has failed; whether memory may be wanting for room in the journal; and whether memory was wanted.
pub record State : Type 0 where
  pub core : Core
  pub events : Option (List Event)
  pub folder : FolderTold
  pub clients : List LinkTold
  pub listeners : List Listener
  pub channels : Channels
  pub programs : List LinkTold
  pub ends : List (Option ChannelEnd)
  pub dropped : ℕ
  pub no_clients : Bool
  pub no_programs : Bool
  pub may_run_out : Bool
  pub wanted : Bool

-- what is seen of a server beside what the folder tells, where these are the words for what links and the journal tell, and for whether the journal may want memory
abbrev pub seen : {J L : Type 0} → (L → LinkTold) → (J → Option (List Event)) → Bool → FolderTold → Server J L → State
seen told events may_run_out folder s = record {
  core = s.core;
  events = events s.journal;
  folder = folder;
  clients = map told s.clients.links;
  listeners = s.seats.listeners;
  channels = s.channels;
  programs = map told s.programs.links;
  ends = s.ends.items;
  dropped = s.dropped;
  no_clients = s.no_clients;
  no_programs = s.no_programs;
  may_run_out = may_run_out;
  wanted = s.wanted;
}

-- the same with what a folder tells, where this is the word for it
abbrev pub shown : {J L F : Type 0} → (L → LinkTold) → (J → Option (List Event)) → Bool → (F → FolderTold) → F → Server J L → State
shown told events may_run_out folder_told folder s = seen told events may_run_out (folder_told folder) s

-- what visits to its clients see, beside what sets levels
abbrev pub clients_of : State → ControlTold → Clients
clients_of s desk = record { links = s.clients; listeners = s.listeners; side = side s.core desk s.events s.folder }

-- what visits to its channels see
abbrev pub scene_of : State → Scene
scene_of s = record { links = s.programs; ends = s.ends; channels = s.channels; part = part s.core s.events s.folder }

-- memory was wanted, and nothing else has changed
abbrev pub with_want : State → State
with_want s = record s { wanted = true }
