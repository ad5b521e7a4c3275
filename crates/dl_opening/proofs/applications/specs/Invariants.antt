use Rattle.std.proofs.Common.{◌≡◌, take}
use Rattle.dl_opening.specs.Scenario.{specs_of}
use Rattle.dl_opening.proofs.applications.specs.Given as goal

abbrev pub invariant-loop-line : goal.invariant-loop-line
invariant-loop-line l = l.specs.items ≡ specs_of (take l.line-index l.lines)
