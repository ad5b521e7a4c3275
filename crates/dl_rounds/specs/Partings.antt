-- Clients that are gone, and their links.
use Rattle.std.specs.Prelude.{◌≡◌, ℕ, ◌-◌, ◌<◌, ◌≤◌, ◌⊎◌, true, List, length, slice_get, Some, None, IsSome}
use Rattle.dl_outside.specs.Told.{LinkTold}
use Rattle.dl_hub.specs.State.{Hub, outbox_of}
use Rattle.dl_rounds.specs.Visits.{IsShut}

-- the link of each client that is gone is shut
abbrev pub AreShut : Hub → List LinkTold → Type 0
AreShut hub links =
    (number : ℕ) (link : LinkTold) → 1 ≤ number → outbox_of hub number ≡ None → slice_get links (number - 1) ≡ Some link → link.is_shut ≡ true

-- Of the first so many clients the links of those that are gone were shut; those of all others stand.
pub record ShutsTo (done : ℕ) (hub : Hub) (old new : List LinkTold) : Type 0 where
  pub many : length new ≡ length old
  pub others : (number : ℕ) → 1 ≤ number → (done < number) ⊎ IsSome (outbox_of hub number) → slice_get new (number - 1) ≡ slice_get old (number - 1)
  pub gone : (number : ℕ) (link link_now : LinkTold) → 1 ≤ number → number ≤ done → outbox_of hub number ≡ None
      → slice_get old (number - 1) ≡ Some link → slice_get new (number - 1) ≡ Some link_now → IsShut link link_now

-- the links of all clients that are gone were shut
abbrev pub ShutsGone : Hub → List LinkTold → List LinkTold → Type 0
ShutsGone hub old new = ShutsTo (length old) hub old new
