-- The closing of a server.
use Rattle.std.specs.Prelude.{◌≡◌, ◌⊎◌, ℕ, true, [], length, None}
use Rattle.dl_bytes.specs.declared.moment.Moment.{Moment}
use Rattle.dl_hub.specs.State.{outbox_of}
use Rattle.dl_registry.specs.Kept.{owed_change}
use Rattle.dl_rounds.specs.Visits.{ClosesAll}
use Rattle.dl_channels.specs.Rounds.{Scene, StopsAll, StopsSome}
use Rattle.dl_socket.specs.Listening.{HaveServed}
use Rattle.dl_server.specs.State.{State, clients_of, scene_of, with_want}

-- what the closing of channels sees: not why they end
abbrev pub closing_scene : State → Scene
closing_scene s = record (scene_of s) { ends = [] }

-- each channel that was open has ended, in the order in which they came
pub record ClosesPrograms (moment : Moment) (old new : State) : Type 0 where
  pub stops : StopsAll moment (closing_scene old) (closing_scene new)
  pub rest : new ≡ record old { core = new.core; events = new.events; folder = new.folder; channels = new.channels; programs = new.programs }

-- the first ones have, and memory was wanting for the next one
pub record ClosesSomePrograms (moment : Moment) (old new : State) : Type 0 where
  pub stops : StopsSome moment (closing_scene old) (closing_scene new)
  pub rest : new ≡ record old { core = new.core; events = new.events; folder = new.folder; channels = new.channels; programs = new.programs }

-- Each client that was open had its closing turns and its Close, and none is open. Where one left, its link was over, if links tell that.
pub record ClosesClients (Tells : Type 0) (old new : State) : Type 0 where
  pub serves : HaveServed (ClosesAll Tells) old.core.registry (clients_of old) (clients_of new) old.channels new.channels
  pub none_open : (number : ℕ) → outbox_of new.core.hub number ≡ None
  pub many : length new.core.hub.clients ≡ length new.clients
  pub settled : owed_change new.core.registry ≡ None
  pub rest : new ≡ record old {
    core = new.core;
    events = new.events;
    folder = new.folder;
    clients = new.clients;
    listeners = new.listeners;
    channels = new.channels;
  }

-- The closing: each channel ended, and then each client was closed.
pub record IsClosed (Tells : Type 0) (moment : Moment) (old new : State) : Type 0 where
  pub between : State
  pub programs : ClosesPrograms moment old between
  pub clients : ClosesClients Tells between new

-- Memory was wanting for the end of a channel; or all of them ended, and it was wanting for the Closes of the clients.
abbrev pub IsHalfClosed : Moment → State → State → Type 0
IsHalfClosed moment old new =
    ClosesSomePrograms moment old new ⊎ ((between : State) × ClosesPrograms moment old between × (new ≡ with_want between) × (between.may_run_out ≡ true))
