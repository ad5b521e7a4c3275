use Rattle.std.proofs.Common.{◌≡◌, take}
use Rattle.dl_fates.specs.Told as told
use Rattle.dl_fates.proofs.owners.owners_in.Given as goal

abbrev pub invariant-loop-step : goal.invariant-loop-step
invariant-loop-step l = l.owners.items ≡ told.owners_in (take l.step-index l.steps)
