-- What a visit to a client comes to.
use Rattle.std.specs.Prelude.{◌≡◌, ◌≤◌, ℕ, nat_lt, Bool, true, List, length, ◌||◌, ◌==◌, Option, Some, None, is_some, IfNone, IsSome}
use Rattle.dl_events.specs.declared.event.Event.{Event}
use Rattle.dl_events.specs.declared.event.Why.{Why}
use Rattle.dl_events.specs.declared.event.Why.TheVariants.{Left}
use Rattle.dl_outside.specs.Link.{StaysOver}
use Rattle.dl_outside.specs.Outside.{Stays}
use Rattle.dl_outside.specs.Told.{FolderTold, LinkTold}
use Rattle.dl_desk.specs.Told.{ControlTold}
use Rattle.dl_hub.specs.State.{outbox_of}
use Rattle.dl_core.specs.State.{Core}
use Rattle.dl_turns.specs.Events.{HasServed}
use Rattle.dl_turns.specs.Gone.{TellTheEnd}
use Rattle.dl_turns.specs.State.{side}
use Rattle.dl_turns.specs.Stopping.{HasClosingTurns}
use Rattle.dl_turns.specs.Turns.{IsPump, IsTurn}
use Rattle.dl_rounds.specs.declared.listener.Listener.{Listener}
use Rattle.dl_rounds.specs.Clients.{Client, Clients, VisitsAll, stage_of}

-- a link was shut: nothing else that it tells has changed
pub record IsShut (old new : LinkTold) : Type 0 where
  pub shut : new.is_shut ≡ true
  pub left : Stays old.left new.left
  pub over : StaysOver old new
  pub given : Stays old.given new.given
  pub taken : Stays old.taken new.taken
  pub faults : new.faults ≡ old.faults
  pub idles : new.idles ≡ old.idles
  pub waits : new.waits ≡ old.waits

-- the link of a client that was closed is shut; that of another one stands
abbrev pub ShutsFor : Option Why → LinkTold → LinkTold → Type 0
ShutsFor None old new = new ≡ old
ShutsFor (Some why) old new = IsShut old new

-- A client was listened to: it had one turn, and its link is shut where it was closed in that; else it is open. Something moved where the client
-- was closed or its link's count of idle turns stands. The listener has the count of its requests that were served.
pub record Heard (number : ℕ) (moved : Bool) (old new : Client) : Type 0 where
  pub why : Option Why
  pub link : LinkTold
  pub turn : IsTurn number why (stage_of old) (record (stage_of new) { link = link })
  pub shut : ShutsFor why link new.link
  pub stays : IfNone why (IsSome (outbox_of new.side.core.hub number))
  pub served : HasServed number new.listener.served new.side.core
  pub moves : moved ≡ (is_some why || (link.idles == old.link.idles))

-- A client was sent what waits for it: one pump, and its link is shut where the client was closed in that; else it is open. Something moved
-- where the client was closed or its link took a byte. The listener stands.
pub record Pumped (number : ℕ) (moved : Bool) (old new : Client) : Type 0 where
  pub why : Option Why
  pub link : LinkTold
  pub pump : IsPump number why old.link link old.side new.side
  pub shut : ShutsFor why link new.link
  pub stays : IfNone why (IsSome (outbox_of new.side.core.hub number))
  pub listener : new.listener ≡ old.listener
  pub moves : moved ≡ (is_some why || nat_lt 0 pump.pumps.count)

-- A client was closed at the daemon's stop: it had its closing turns and its Close, and its link is shut. Where it left, its link was over, if
-- links tell that.
pub record Closed (Tells : Type 0) (number : ℕ) (moved : Bool) (old new : Client) : Type 0 where
  pub why : Why
  pub link : LinkTold
  pub wound_up : HasClosingTurns number why (stage_of old) (record (stage_of new) { link = link })
  pub shut : IsShut link new.link
  pub served : HasServed number new.listener.served new.side.core
  pub left : why ≡ Left → Tells → link.over ≡ Some true
  pub moves : moved ≡ true

-- A pump sees neither desk nor folder nor listener: whatever these are, the client was pumped.
abbrev pub PumpsTo : ℕ → Bool → LinkTold → LinkTold → Core → Core → Option (List Event) → Option (List Event) → Type 0
PumpsTo number moved link link_now old new events events_now =
    (desk : ControlTold) (folder : FolderTold) (listener : Listener)
    → Pumped number moved (record { link = link; listener = listener; side = side old desk events folder })
    (record { link = link_now; listener = listener; side = side new desk events_now folder })

-- ---- all open clients, in the order of their numbers

-- each was listened to
abbrev pub HearsAll : Bool → Clients → Clients → Type 0
HearsAll moved old new = VisitsAll Heard moved old new

-- each was pumped, whatever desk, folder and listeners are
abbrev pub PumpsAll : Bool → List LinkTold → List LinkTold → Core → Core → Option (List Event) → Option (List Event) → Type 0
PumpsAll moved links links_now old new events events_now =
    (desk : ControlTold) (folder : FolderTold) (listeners : List Listener) → length links ≤ length listeners
    → VisitsAll Pumped moved (record { links = links; listeners = listeners; side = side old desk events folder })
    (record { links = links_now; listeners = listeners; side = side new desk events_now folder })

-- each was closed
abbrev pub ClosesAll : Type 0 → Clients → Clients → Type 0
ClosesAll Tells old new = (moved : Bool) × VisitsAll (Closed Tells) moved old new

-- the same by what links tell
abbrev pub Shuts : {L : Type 0} → (L → LinkTold) → ℕ → Client → Client → Type 0
Shuts link_told number = Closed (TellTheEnd link_told) number true

abbrev pub HaveShut : {L : Type 0} → (L → LinkTold) → Clients → Clients → Type 0
HaveShut link_told = ClosesAll (TellTheEnd link_told)
