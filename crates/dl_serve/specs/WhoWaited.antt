-- What the nets handed out in so many rounds, and what the links gave that they handed out.
use Rattle.std.specs.Prelude.{◌≡◌, ◌<◌, ◌≤◌, ◌+◌, ◌-◌, ◌^◌, ◌⊎◌, ℕ, min, List, drop, length, map, slice_get, Some, None, IfSome, IsSome, IsSomeAnd}
use Rattle.dl_events.specs.declared.event.Event.{Event}
use Rattle.dl_model.specs.Journal.{IsOpen}
use Rattle.dl_outside.specs.Outside.{HasRisen}
use Rattle.dl_outside.specs.Told.{LinkTold, NetTold}
use Rattle.dl_serve.specs.declared.closed.Closed.{Closed}
use Rattle.dl_serve.specs.Admitted.{TellGiven}
use Rattle.dl_serve.specs.Told.{Told}

-- ---- who was handed out

-- Of those that waited, where the net told them, the first so many were handed out, or all where fewer waited. Each of these came or was dropped.
pub record AcceptsInOrder {L : Type 0} (many came dropped : ℕ) (old new : NetTold L) : Type 0 where
  pub waits : IfSome old.waiting (λ waiting. new.waiting ≡ Some (drop many waiting))
  pub all : IfSome old.waiting (λ waiting. came + dropped ≡ min many (length waiting))

-- ---- what they gave

-- a link gave so many bytes or more; or it had nothing to give once, by its count of idle turns
abbrev pub GaveOrIdled : ℕ → LinkTold → Type 0
GaveOrIdled many link = IsSomeAnd link.given (λ bytes. many ≤ length bytes) ⊎ (0 < link.idles)

-- Where one came in each of the first of so many rounds: each of those that stayed gave at least as many bytes as there were rounds from its own on, or had
-- nothing to give once.
abbrev pub EachGave : ℕ → (ℕ → Type 0) → List LinkTold → Type 0
EachGave many Stayed links = (place : ℕ) (link : LinkTold) → slice_get links place ≡ Some link → Stayed place → GaveOrIdled (many - place) link

-- ---- of both nets

-- the count of faults of neither net rose
pub record NetsStand {L : Type 0} (old new : Told L) : Type 0 where
  pub net : ¬ (HasRisen old.net.faults new.net.faults)
  pub users : ¬ (HasRisen old.users.faults new.users.faults)

-- So many rounds were made, behind which these events were noted, and then the closing. Each link that was handed out and not dropped has its place among
-- those of the clients, or among those of the programs. Where none was dropped, each that was not ended before the closing gave at least as many bytes as
-- there were rounds from its own on, or had nothing to give once: those of clients that were open behind the rounds, and those of channels that the
-- closing ended.
pub record HasAcceptedInOrder {L : Type 0} (link_told : L → LinkTold) (rounds : ℕ) (events : List Event) (net net_now users users_now : NetTold L) (closed : Closed L) : Type 0 where
  pub clients_dropped : ℕ
  pub users_dropped : ℕ
  pub dropped : closed.state.dropped ≡ min (clients_dropped + users_dropped) (2 ^ 32 - 1)
  pub on_net : AcceptsInOrder rounds (length closed.clients.links) clients_dropped net net_now
  pub on_users : AcceptsInOrder rounds (length closed.users.links) users_dropped users users_now
  pub clients_gave : TellGiven link_told → closed.state.dropped ≡ 0 → IsSome net.waiting
      → EachGave rounds (λ place. IsOpen (place + 1) events) (map link_told closed.clients.links)
  pub users_gave : TellGiven link_told → closed.state.dropped ≡ 0 → IsSome users.waiting
      → EachGave rounds (λ place. slice_get closed.ends place ≡ Some None) (map link_told closed.users.links)
