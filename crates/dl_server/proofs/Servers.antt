-- What is true of a server goes on with each step of a round.
use Rattle.std.proofs.Common.{◌≡◌, ◌+◌, ◌-◌, ◌≤◌, ℕ, Bool, List, length, Option, refl, ap, ◌∙◌, arith}
use Rattle.dl_core.specs.State.{Core}
use Rattle.dl_events.specs.declared.event.Event.{Event}
use Rattle.dl_hub.specs.State.{Client}
use Rattle.dl_outside.specs.Links.{Links}
use Rattle.dl_outside.specs.Told.{LinkTold, NetTold}
use Rattle.dl_registry.specs.Kept.{Kept, owed_change}
use Rattle.dl_rounds.specs.Arrivals.{ConnectsAs}
use Rattle.dl_rounds.specs.Clients.{Clients, stage_of}
use Rattle.dl_rounds.specs.Ready.{AreLinked, open_clients}
use Rattle.dl_rounds.specs.Visits.{Closed, ClosesAll, Heard, HearsAll}
use Rattle.dl_rounds.specs.declared.accepting.Arrival.{Arrival}
use Rattle.dl_rounds.specs.declared.accepting.Arrival.TheVariants as arrival
use Rattle.dl_rounds.proofs.OneClient.{but_stop, but_turn}
use Rattle.dl_loop.proofs.Visited.{visits_keep}
use Rattle.dl_channels.specs.Accepting.{Enters}
use Rattle.dl_channels.specs.declared.accepting.Entry.{Entry}
use Rattle.dl_channels.specs.declared.accepting.Entry.TheVariants as entry
use Rattle.dl_socket.specs.Channels.{Channels}
use Rattle.dl_turns.specs.State.{Side}
use Rattle.dl_server.specs.Server.{HaveLinks}
use Rattle.dl_loop.proofs.GoneRounds.{open_few}

-- ---- links

pub links_of : {L : Type 0} (links : Links L) (core : Core) (spare : ℕ) → AreLinked links core spare → HaveLinks links core
links_of links core spare linked = record { many = linked.many; few = linked.few; place = linked.place; settled = linked.settled }

pub linked_so : {L : Type 0} (links : Links L) (core : Core) (spare : ℕ) → HaveLinks links core → length links.links + 2 ≤ spare → AreLinked links core spare
linked_so links core spare have room = record {
  many = have.many;
  few = have.few;
  place = have.place;
  settled = have.settled;
  room = omega (arith, room, have.many, open_few core.hub.clients);
}

pub room_so : {L : Type 0} (links : Links L) (core : Core) (spare : ℕ) → HaveLinks links core → length links.links + 2 ≤ spare → open_clients core.hub + 2 ≤ spare
room_so links core spare have room = omega (arith, room, have.many, open_few core.hub.clients)

-- ---- accepts

-- what stays of a core with an accept
pub record StaysSo (old new : Core) : Type 0 where
  pub limit : new.hub.limit ≡ old.hub.limit
  pub registry : new.registry ≡ old.registry
  pub admitted : new.hub.admitted ≡ old.hub.admitted

same_so : (old new : Core) → new ≡ old → StaysSo old new
same_so old new same = record { limit = ap (λ (c : Core). c.hub.limit) same; registry = ap (λ (c : Core). c.registry) same; admitted = ap (λ (c : Core). c.hub.admitted) same }

pub connects_so : (came : Arrival) (old new : Core) (events events_now : Option (List Event)) → ConnectsAs came old new events events_now → StaysSo old new
connects_so (arrival.Client number) old new events events_now connects =
    record { limit = connects.same.limit; registry = ap (λ (c : Core). c.registry) connects.rest; admitted = connects.admitted }
connects_so arrival.Dropped old new events events_now connects = same_so old new connects.1
connects_so arrival.Nobody old new events events_now connects = same_so old new connects.0
connects_so arrival.Failed old new events events_now connects = same_so old new connects.0
connects_so arrival.OutOfMemory old new events events_now connects = same_so old new connects.0

-- what stays of channels with an accept
pub record OpensSo (old new : Channels) : Type 0 where
  pub in_all : new.in_all ≡ old.in_all
  pub given : old.opened ≤ old.in_all → new.opened ≤ new.in_all

-- ---- visits to clients

-- as many clients may come
pub heard_limit : (moved : Bool) (old new : Clients) → HearsAll moved old new → new.side.core.hub.limit ≡ old.side.core.hub.limit
heard_limit moved old new hears = visits_keep Heard (λ (c : Clients). c.side.core.hub.limit ≡ old.side.core.hub.limit)
    (λ number here clients was now is heard so. (but_turn number heard.why (stage_of was) (record (stage_of now) { link = heard.link }) heard.turn).same.limit ∙ ap (λ (s : Side). s.core.hub.limit) is ∙ so)
    0 hears.0 moved old new hears.1 refl

pub closed_limit : {Tells : Type 0} (old new : Clients) → ClosesAll Tells old new → new.side.core.hub.limit ≡ old.side.core.hub.limit
closed_limit {Tells} old new closes = visits_keep (Closed Tells) (λ (c : Clients). c.side.core.hub.limit ≡ old.side.core.hub.limit)
    (λ number here clients was now is closed so. (but_stop number closed.why (stage_of was) (record (stage_of now) { link = closed.link }) closed.wound_up).same.limit ∙ ap (λ (s : Side). s.core.hub.limit) is ∙ so)
    0 closes.1.0 closes.0 old new closes.1.1 refl
