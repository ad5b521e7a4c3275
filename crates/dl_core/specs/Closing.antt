-- Which causes a client may be closed for.
use Rattle.std.specs.Prelude.{◌≡◌, ℕ, ◌+◌, ◌<◌, [], length, IsSomeAnd}
use Rattle.dl_events.specs.declared.event.Why.{Why}
use Rattle.dl_events.specs.declared.event.Why.TheVariants.{Slow, Stuck, Stopped}
use Rattle.dl_hub.specs.State.{Hub, outbox_of}

-- A slow client has just this room, which is too little; one that is stopped has nothing left to send, and one that is stuck has
-- just so much.
abbrev pub MayEnd : Hub → ℕ → Why → Type 0
MayEnd hub client (Slow room need) = IsSomeAnd (outbox_of hub client) (λ outbox. length outbox.bytes + room ≡ outbox.capacity) × (room < need)
MayEnd hub client Stopped = IsSomeAnd (outbox_of hub client) (λ outbox. outbox.bytes ≡ [])
MayEnd hub client (Stuck left) = IsSomeAnd (outbox_of hub client) (λ outbox. length outbox.bytes ≡ left) × (0 < left)
MayEnd hub client why = Unit {0}
