use Rattle.std.proofs.Common.{◌≡◌, take}
use Rattle.dl_fates.specs.Claims.{slots_claimed}
use Rattle.dl_fates.proofs.claims.slots_claimed.Given as goal

abbrev pub invariant-loop-event : goal.invariant-loop-event
invariant-loop-event l = l.slots.items ≡ slots_claimed (take l.event-index l.events)
