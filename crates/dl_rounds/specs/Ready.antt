-- What holds of the clients between two calls, so that the next one may be made.
use Rattle.std.specs.Prelude.{◌≡◌, ℕ, ◌+◌, ◌<◌, ◌≤◌, length, count_by, slice_get, Some, None, IsSome, ◌-◌}
use Rattle.dl_bytes.specs.Limits.{message_limit}
use Rattle.dl_message.specs.Cutting.{unfed}
use Rattle.dl_outside.specs.Links.{Links}
use Rattle.dl_desk.specs.Told.{ControlTold}
use Rattle.dl_registry.specs.Kept.{owed_change}
use Rattle.dl_hub.specs.State.{Hub, is_open, outbox_of}
use Rattle.dl_core.specs.State.{Core}
use Rattle.dl_turns.specs.Events.{HasServed, IsDeskOf}
use Rattle.dl_rounds.specs.declared.listener.Listener.{Listener}
use Rattle.dl_rounds.specs.ListenerPool.{HasSeat, Seated}

-- how many clients are open
abbrev pub open_clients : Hub → ℕ
open_clients hub = count_by is_open hub.clients

-- Each client that came has a link, and there is room for those of all that may come. No Level event is owed, and the journal has room for
-- a Close of each open client.
pub record AreLinked {L : Type 0} (links : Links L) (core : Core) (spare : ℕ) : Type 0 where
  pub many : length core.hub.clients ≡ length links.links
  pub few : length core.hub.clients ≤ core.hub.limit
  pub place : core.hub.limit ≤ links.room
  pub settled : owed_change core.registry ≡ None
  pub room : open_clients core.hub ≤ spare

-- the listener of a client that sent nothing yet
abbrev pub fresh_listener : Listener
fresh_listener = record { cutter = unfed message_limit; served = 0 }

-- Each client that may come has a listener, with a cutter for clients. That of one that came has the count of its requests that were served, and
-- the others are of clients that sent nothing yet; so is that of an open client without a seat. The desk is that of the registry.
pub record AreHeard (seated : Seated) (core : Core) (desk : ControlTold) : Type 0 where
  pub enough : core.hub.limit ≤ length seated.listeners
  pub limits : (place : ℕ) (listener : Listener) → slice_get seated.listeners place ≡ Some listener → listener.cutter.limit ≡ message_limit
  pub counts : (place : ℕ) (listener : Listener) → slice_get seated.listeners place ≡ Some listener → place < length core.hub.clients
      → HasServed (place + 1) listener.served core
  pub unused : (place : ℕ) (listener : Listener) → slice_get seated.listeners place ≡ Some listener → length core.hub.clients ≤ place → listener ≡ fresh_listener
  pub waiting : (number : ℕ) → IsSome (outbox_of core.hub number) → (HasSeat number seated → ⊥)
      → slice_get seated.listeners (number - 1) ≡ Some fresh_listener
  pub desk_so : IsDeskOf core.registry desk

-- The journal keeps the room that it had for all but the Closes of open clients.
abbrev pub KeepsRoom : Core → Core → ℕ → ℕ → Type 0
KeepsRoom old new spare spare_now = spare + open_clients new.hub ≤ spare_now + open_clients old.hub
