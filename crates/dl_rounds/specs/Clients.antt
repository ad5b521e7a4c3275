-- The daemon's clients, and visits to them one after the other.
use Rattle.std.specs.Prelude.{◌≡◌, ℕ, ◌-◌, Bool, false, ◌||◌, List, [], ◌∷◌, slice_get, slice_set, Option, Some, None}
use Rattle.dl_events.specs.declared.event.Event.{Event}
use Rattle.dl_outside.specs.Told.{FolderTold, LinkTold}
use Rattle.dl_desk.specs.Told.{ControlTold}
use Rattle.dl_hub.specs.State.{IsNextOpen}
use Rattle.dl_core.specs.State.{Core}
use Rattle.dl_turns.specs.State.{Side, Stage, side}
use Rattle.dl_rounds.specs.declared.listener.Listener.{Listener}

-- What a visit to a client sees and changes: what the client's link tells, its listener, and the daemon's side.
pub record Client : Type 0 where
  pub link : LinkTold
  pub listener : Listener
  pub side : Side

-- What a round sees and changes: what the links of the clients tell, by their numbers from 1, the listeners likewise, and the daemon's
-- side.
pub record Clients : Type 0 where
  pub links : List LinkTold
  pub listeners : List Listener
  pub side : Side

-- the client of a link, a listener, a core, a desk, a journal and a folder, where these are the words for what they tell
abbrev pub seen : {L D J F : Type 0} → (L → LinkTold) → (D → ControlTold) → (J → Option (List Event)) → (F → FolderTold) → L → Listener → Core → D → J → F → Client
seen link_told desk_told events folder_told link listener core desk journal folder =
    record { link = link_told link; listener = listener; side = side core (desk_told desk) (events journal) (folder_told folder) }

-- what a turn sees of a client
abbrev pub stage_of : Client → Stage
stage_of client = record { link = client.link; cutter = client.listener.cutter; side = client.side }

-- this is the client of a number
pub record IsClient (number : ℕ) (clients : Clients) (client : Client) : Type 0 where
  pub link : slice_get clients.links (number - 1) ≡ Some client.link
  pub listener : slice_get clients.listeners (number - 1) ≡ Some client.listener
  pub side : client.side ≡ clients.side

-- the clients after a visit to one of them: nothing has changed but this one and the daemon's side
abbrev pub with_client : ℕ → Client → Clients → Clients
with_client number client clients = record {
  links = slice_set clients.links (number - 1) client.link;
  listeners = slice_set clients.listeners (number - 1) client.listener;
  side = client.side;
}

-- These clients were visited, one after the other: each is the next one above that before it which is open when its turn comes, and
-- behind the last none above it is open. Nothing else has changed. Something moved where it did in one of the visits.
abbrev pub Visits : (ℕ → Bool → Client → Client → Type 0) → ℕ → List ℕ → Bool → Clients → Clients → Type 0
Visits Visit last [] moved old new = IsNextOpen old.side.core.hub last None × (moved ≡ false) × (new ≡ old)
Visits Visit last (number ∷ numbers) moved old new =
    IsNextOpen old.side.core.hub last (Some number)
    × (was : Client) × IsClient number old was × (now : Client) × (here : Bool) × Visit number here was now
    × (later : Bool) × (moved ≡ here || later) × Visits Visit number numbers later (with_client number now old) new

-- the open clients above this one were visited, in the order of their numbers
abbrev pub HaveVisited : (ℕ → Bool → Client → Client → Type 0) → ℕ → Bool → Clients → Clients → Type 0
HaveVisited Visit last moved old new = (numbers : List ℕ) × Visits Visit last numbers moved old new

-- all open clients were
abbrev pub VisitsAll : (ℕ → Bool → Client → Client → Type 0) → Bool → Clients → Clients → Type 0
VisitsAll Visit moved old new = HaveVisited Visit 0 moved old new
