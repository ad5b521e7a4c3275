-- What comes of an accept.
use Rattle.std.specs.Prelude.{◌≡◌, ℕ, ◌+◌, ◌-◌, ◌^◌, min, List, [], ◌∷◌, ◌++◌, length, Option, Some, IfSome}
use Rattle.dl_events.specs.Journal as notes
use Rattle.dl_events.specs.declared.event.Event.{Event}
use Rattle.dl_events.specs.declared.event.Event.TheVariants as event
use Rattle.dl_outside.specs.Link.{IsFresh}
use Rattle.dl_outside.specs.Links.{Links}
use Rattle.dl_outside.specs.Outside.{HasRisen, Stays}
use Rattle.dl_outside.specs.Told.{LinkTold, NetTold}
use Rattle.dl_hub.specs.State.{Comes, IsSameHub, HasPlace}
use Rattle.dl_core.specs.Follows.{AddsAlone}
use Rattle.dl_core.specs.State.{Core}
use Rattle.dl_rounds.specs.declared.accepting.Arrival.{Arrival}
use Rattle.dl_rounds.specs.declared.accepting.Arrival.TheVariants as arrival

-- A client connected under the next number: the hub had a place, and the Connect event is noted. No frame was admitted for it.
pub record Connects (number : ℕ) (old new : Core) (events events_now : Option (List Event)) : Type 0 where
  pub place : HasPlace old.hub
  pub next : number ≡ length old.hub.clients + 1
  pub comes : Comes old.hub new.hub
  pub same : IsSameHub old.hub new.hub
  pub admitted : new.hub.admitted ≡ old.hub.admitted
  pub after : AddsAlone (event.Connect number ∷ []) old new
  pub event : notes.Adds events events_now (event.Connect number)
  pub rest : new ≡ record old { hub = new.hub }

-- The connection that waited longest was taken, and is fresh.
abbrev pub Takes : {L : Type 0} → (L → LinkTold) → NetTold L → NetTold L → L → Type 0
Takes {L} told old new link =
    IfSome old.waiting (λ links. (rest : List L) × (links ≡ link ∷ rest) × (new.waiting ≡ Some rest)) × IsFresh (told link) × (new.faults ≡ old.faults)

-- What an accept made of the net, of the links and of the count of links that were dropped: the oldest connection is the link of the client that
-- connected, or was dropped; no connection waits; or the net failed, its count of faults risen. Want of memory says nothing else.
abbrev pub Arrives : {L : Type 0} → (L → LinkTold) → Arrival → NetTold L → NetTold L → Links L → Links L → ℕ → ℕ → Type 0
Arrives {L} told (arrival.Client number) net net_now links links_now dropped dropped_now =
    (link : L) × Takes told net net_now link × (links_now ≡ record { links = links.links ++ link ∷ []; room = links.room }) × (dropped_now ≡ dropped)
Arrives {L} told arrival.Dropped net net_now links links_now dropped dropped_now =
    (link : L) × Takes told net net_now link × (links_now ≡ links) × (dropped_now ≡ min (dropped + 1) (2 ^ 32 - 1))
Arrives told arrival.Nobody net net_now links links_now dropped dropped_now =
    IfSome net.waiting (λ waiting. waiting ≡ []) × Stays net.waiting net_now.waiting × (net_now.faults ≡ net.faults) × (links_now ≡ links) × (dropped_now ≡ dropped)
Arrives told arrival.Failed net net_now links links_now dropped dropped_now =
    HasRisen net.faults net_now.faults × Stays net.waiting net_now.waiting × (links_now ≡ links) × (dropped_now ≡ dropped)
Arrives told arrival.OutOfMemory net net_now links links_now dropped dropped_now =
    (net_now.faults ≡ net.faults) × Stays net.waiting net_now.waiting × (links_now ≡ links) × (dropped_now ≡ dropped)

-- A client connected where the answer is its number. A link was dropped only where the hub had no place; and with every other answer core and
-- journal stand.
abbrev pub ConnectsAs : Arrival → Core → Core → Option (List Event) → Option (List Event) → Type 0
ConnectsAs (arrival.Client number) old new events events_now = Connects number old new events events_now
ConnectsAs arrival.Dropped old new events events_now = (HasPlace old.hub → ⊥) × (new ≡ old) × (events_now ≡ events)
ConnectsAs other old new events events_now = (new ≡ old) × (events_now ≡ events)
