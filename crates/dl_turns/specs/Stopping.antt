-- The closing turns of a client at the daemon's stop, and its Close.
use Rattle.std.specs.Prelude.{◌≡◌, ℕ, zero, suc, ◌+◌, ◌-◌, ◌^◌, ◌<◌, ◌≤◌, min, ◌⊎◌, Bool, true, false, List, [], length, Some, None, IsSomeAnd}
use Rattle.dl_events.specs.declared.event.Why.{Why}
use Rattle.dl_events.specs.declared.event.Why.TheVariants.{Stopped, Stuck}
use Rattle.dl_outside.specs.Outside.{Grows, HasRisen, Stays}
use Rattle.dl_outside.specs.Told.{LinkTold}
use Rattle.dl_hub.specs.State.{outbox_of}
use Rattle.dl_turns.specs.Events.{Closes}
use Rattle.dl_turns.specs.State.{Side, Stage}
use Rattle.dl_turns.specs.Turns.{HasGiven, IsPump, IsTurn, Listens}

-- nothing waits for a client
abbrev pub IsEmpty : ℕ → Side → Type 0
IsEmpty client side = IsSomeAnd (outbox_of side.core.hub client) (λ outbox. outbox.bytes ≡ [])

-- a turn is quiet where the link gave nothing, its count of idle turns risen, and nothing waits; else it gave a byte, or it took nothing more
abbrev pub IsQuiet : ℕ → Bool → LinkTold → LinkTold → LinkTold → Side → Type 0
IsQuiet client true link heard link_now side = HasRisen link.idles heard.idles × IsEmpty client side × Stays link.given heard.given
IsQuiet client false link heard link_now side = HasGiven link.given heard.given ⊎ HasRisen heard.waits link_now.waits

-- A closing turn after which the client is open: it was listened to, and then what waits was sent.
pub record GoesOn (client : ℕ) (quiet : Bool) (old new : Stage) : Type 0 where
  pub heard : Stage
  pub listens : Listens client None old heard
  pub pumps : IsPump client None heard.link new.link heard.side new.side
  pub cutter : new.cutter ≡ heard.cutter
  pub is_quiet : IsQuiet client quiet old.link heard.link new.link new.side

-- A closing turn in which the client was closed: while it was listened to, or since its link failed.
abbrev pub IsClosedIn : ℕ → Why → Stage → Stage → Type 0
IsClosedIn client why old new =
    IsTurn client (Some why) old new
    ⊎ ((heard : Stage) × Listens client None old heard × IsPump client (Some why) heard.link new.link heard.side new.side × (new.cutter ≡ heard.cutter))

-- so many closing turns, none of them quiet
abbrev pub TurnsOn : ℕ → ℕ → Stage → Stage → Type 0
TurnsOn client zero old new = new ≡ old
TurnsOn client (suc count) old new = (next : Stage) × GoesOn client false old next × TurnsOn client count next new

-- the cause is one of the daemon's stop
abbrev pub IsStop : Why → Type 0
IsStop Stopped = Unit {0}
IsStop (Stuck left) = Unit {0}
IsStop other = ⊥

-- Closing turns go on until one is quiet, at most 1000, or until the client is closed in one. A client that is still open is then stopped
-- where nothing waits for it, and stuck where something does.
pub record HasClosingTurns (client : ℕ) (why : Why) (old new : Stage) : Type 0 where
  pub count : ℕ
  pub last : Stage
  pub turns : TurnsOn client count old last
  pub ends : ((count < 1000) × IsClosedIn client why last new)
      ⊎ ((end : Stage) × (((count < 1000) × GoesOn client true last end) ⊎ ((count ≡ 1000) × (end ≡ last))) × IsStop why × Closes client why end.side new.side
      × (new.link ≡ end.link) × (new.cutter ≡ end.cutter))

-- Turns were tried: the busy turns of the link, by its count, and the bytes that it gave, where it tells them, are together at least so
-- many.
pub record HasTried (least : ℕ) (old new : LinkTold) : Type 0 where
  pub busy : ℕ
  pub bytes : List ℕ
  pub waited : min (old.waits + busy) (2 ^ 64 - 1) ≤ new.waits
  pub gave : Grows old.given new.given bytes
  pub enough : least ≤ busy + length bytes

-- A client is stopped only where its link had nothing to give in this call, or after 1000 turns in each of which it gave a byte or took
-- nothing more. It is stuck only after so many, where its count of busy turns rose too.
abbrev pub HasStopCause : Why → LinkTold → LinkTold → Type 0
HasStopCause Stopped old new = HasRisen old.idles new.idles ⊎ HasTried 1000 old new
HasStopCause (Stuck left) old new = HasRisen old.waits new.waits × HasTried 1000 old new
HasStopCause other old new = Unit {0}
