use Rattle.std.proofs.Common.{◌≡◌, take}
use Rattle.dl_opening.specs.Scenario.{clients}
use Rattle.dl_opening.proofs.clients.count.Given as goal

abbrev pub invariant-loop-line : goal.invariant-loop-line
invariant-loop-line l = l.count ≡ clients (take l.line-index l.lines)
