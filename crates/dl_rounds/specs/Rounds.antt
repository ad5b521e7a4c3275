-- What a round is told of the clients.
use Rattle.std.specs.Prelude.{List, map, Option}
use Rattle.dl_events.specs.declared.event.Event.{Event}
use Rattle.dl_outside.specs.Links.{Links}
use Rattle.dl_outside.specs.Told.{FolderTold, LinkTold}
use Rattle.dl_desk.specs.Told.{ControlTold}
use Rattle.dl_core.specs.State.{Core}
use Rattle.dl_turns.specs.State.{side}
use Rattle.dl_rounds.specs.declared.listener.Listener.{Listener}
use Rattle.dl_rounds.specs.Clients.{Clients}
use Rattle.dl_rounds.specs.ListenerPool.{Seated}

-- the clients of links, listeners, a core, a desk, a journal and a folder, where these are the words for what they tell
abbrev pub seen : {L D J F : Type 0} → (L → LinkTold) → (D → ControlTold) → (J → Option (List Event)) → (F → FolderTold) → Links L → List Listener → Core → D → J → F → Clients
seen link_told desk_told events folder_told links listeners core desk journal folder =
    record { links = map link_told links.links; listeners = listeners; side = side core (desk_told desk) (events journal) (folder_told folder) }

-- the same of the clients' seats
abbrev pub seated : {L D J F : Type 0} → (L → LinkTold) → (D → ControlTold) → (J → Option (List Event)) → (F → FolderTold) → Links L → Seated → Core → D → J → F → Clients
seated link_told desk_told events folder_told links seats = seen link_told desk_told events folder_told links seats.listeners
