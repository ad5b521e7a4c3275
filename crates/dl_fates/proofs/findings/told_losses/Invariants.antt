use Rattle.std.proofs.Common.{◌≡◌, take}
use Rattle.dl_report.specs.Losses.{told}
use Rattle.dl_fates.proofs.findings.told_losses.Given as goal

abbrev pub invariant-loop-event : goal.invariant-loop-event
invariant-loop-event l = l.sum ≡ told (take l.event-index l.events)
