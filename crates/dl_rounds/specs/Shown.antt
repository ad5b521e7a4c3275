-- What is shown of clients that are gone: their Closes, how much of their streams was left, and what their links count.
use Rattle.std.specs.Prelude.{◌≡◌, ℕ, ◌-◌, true, List, ◌∷◌, ◌++◌, slice_get, Some, None, IfSome, IsSome, IsSomeAnd}
use Rattle.dl_bytes.specs.Limits.{request_limit}
use Rattle.dl_events.specs.declared.event.Event.{Event}
use Rattle.dl_events.specs.declared.event.Event.TheVariants as event
use Rattle.dl_events.specs.declared.event.Why.{Why}
use Rattle.dl_events.specs.declared.event.Why.TheVariants.{Left, TooMany}
use Rattle.dl_outside.specs.Told.{LinkTold}
use Rattle.dl_hub.specs.State.{Hub, client_of, outbox_of}
use Rattle.dl_turns.specs.Gone.{ShowsCause}
use Rattle.dl_turns.specs.Later.{HasLeft}
use Rattle.dl_rounds.specs.Clients.{Clients}

-- the link of a client that left is over
abbrev pub IsOverFor : Why → LinkTold → Type 0
IsOverFor Left link = link.over ≡ Some true
IsOverFor other link = Unit {0}

-- as many requests of a client that asked too much were served as one may have
abbrev pub WasServedAll : ℕ → Why → Hub → Type 0
WasServedAll number TooMany hub = IsSomeAnd (client_of hub number) (λ c. c.replies ≡ request_limit)
WasServedAll number other hub = Unit {0}

-- A client that is gone shows why: its Close is among these events, the hub keeps how much of its stream was left and how many requests were
-- served, as the cause tells, and the counts of its link show the cause. Where it left, its link is over, if links tell that.
pub record ShowsWhy (Tells : Type 0) (events : List Event) (hub : Hub) (number : ℕ) (link : LinkTold) : Type 0 where
  pub before : List Event
  pub cause : Why
  pub after : List Event
  pub place : events ≡ before ++ event.Close number cause ∷ after
  pub left : HasLeft number cause hub
  pub served : WasServedAll number cause hub
  pub counts : ShowsCause link cause
  pub over : Tells → IsOverFor cause link

-- each that is gone does
abbrev pub AllShowWhy : Type 0 → List Event → Hub → List LinkTold → Type 0
AllShowWhy Tells events hub links = (number : ℕ) (link : LinkTold) → IsSome (client_of hub number) → outbox_of hub number ≡ None
    → slice_get links (number - 1) ≡ Some link → ShowsWhy Tells events hub number link

-- the same of clients where the journal keeps its events
abbrev pub ShowWhy : Type 0 → Clients → Type 0
ShowWhy Tells clients = IfSome clients.side.events (λ events. AllShowWhy Tells events clients.side.core.hub clients.links)

-- each of these links tells whether it is over
abbrev pub TellOvers : List LinkTold → Type 0
TellOvers links = (place : ℕ) (link : LinkTold) → slice_get links place ≡ Some link → IsSome link.over
