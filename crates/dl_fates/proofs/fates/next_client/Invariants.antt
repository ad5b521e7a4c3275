use Rattle.std.proofs.Common.{◌≡◌, drop}
use Rattle.dl_laws.specs.Fates.{next_client}
use Rattle.dl_fates.proofs.fates.next_client.Given as goal

-- nobody came so far
abbrev pub invariant-loop-event : goal.invariant-loop-event
invariant-loop-event l = next_client l.events ≡ next_client (drop l.event-index l.events)
