-- What visits to the daemon's clients come to, beside programs outside.
use Rattle.std.specs.Prelude.{◌≡◌, ℕ, Bool, List, ◌++◌, Option}
use Rattle.dl_core.specs.State.{Core}
use Rattle.dl_desk.specs.Told.{ControlTold}
use Rattle.dl_events.specs.declared.event.Event.{Event}
use Rattle.dl_cells.specs.declared.level_history.Change.{Change}
use Rattle.dl_outside.specs.Links.{Links}
use Rattle.dl_outside.specs.Told.{FolderTold, LinkTold}
use Rattle.dl_registry.specs.Kept.{Kept}
use Rattle.dl_rounds.specs.Clients.{Clients}
use Rattle.dl_rounds.specs.Ready.{AreHeard}
use Rattle.dl_rounds.specs.Rounds.{seated}
use Rattle.dl_rounds.specs.ListenerPool.{Seated}
use Rattle.dl_rounds.specs.Visits as rounds
use Rattle.dl_rounds.specs.Visits.{HearsAll}
use Rattle.dl_turns.specs.Events.{IsDeskOf}
use Rattle.dl_socket.specs.Channels.{Channels}
use Rattle.dl_socket.specs.Messenger.{full_queue}
use Rattle.dl_socket.specs.Turns.{told_each}

-- Each client that may come has a listener, whatever sets levels for the registry.
abbrev pub HaveListeners : Seated → Core → Type 0
HaveListeners seated core = (desk : ControlTold) → IsDeskOf core.registry desk → AreHeard seated core desk

-- links, the seats of clients, a core, a journal and a folder, as a visit sees them, whatever sets levels
abbrev pub clients_of : {L J F : Type 0} → (L → LinkTold) → (J → Option (List Event)) → (F → FolderTold) → Links L → Seated → Core → J → F → ControlTold → Clients
clients_of link_told events folder_told links seats core journal folder desk = seated link_told (λ (d : ControlTold). d) events folder_told links seats core desk journal folder

-- Clients were visited so: the levels that their requests set are told the programs that have their contexts, in order. What sets the levels has the
-- versions of the registry before it, and no queue took an injection.
pub record HaveServed (Visits : Clients → Clients → Type 0) (registry : Kept) (before after : ControlTold → Clients) (old new : Channels) : Type 0 where
  pub desk : ControlTold
  pub desk_now : ControlTold
  pub desk_so : IsDeskOf registry desk
  pub visits : Visits (before desk) (after desk_now)
  pub changes : List Change
  pub sets : desk_now.sets ≡ desk.sets ++ changes
  pub pushed : (app : ℕ) → (desk.pushed app ≡ full_queue) × (desk_now.pushed app ≡ full_queue)
  pub told_so : new.outboxes ≡ told_each registry.registry changes old.outboxes
  pub is : new ≡ record old { outboxes = new.outboxes }

-- all clients that are open were listened to so
abbrev pub HaveHeard : Bool → Core → (ControlTold → Clients) → (ControlTold → Clients) → Channels → Channels → Type 0
HaveHeard moved core = HaveServed (HearsAll moved) core.registry

-- and all were closed so
abbrev pub HaveShut : {L : Type 0} → (L → LinkTold) → Core → (ControlTold → Clients) → (ControlTold → Clients) → Channels → Channels → Type 0
HaveShut link_told core = HaveServed (rounds.HaveShut link_told) core.registry
