use Rattle.std.proofs.Common.{◌≡◌, take}
use Rattle.dl_opening.specs.Scenario.{all_calls}
use Rattle.dl_opening.proofs.asking.all_calls.Given as goal

abbrev pub invariant-loop-line : goal.invariant-loop-line
invariant-loop-line l = l.calls ≡ all_calls (take l.line-index l.lines)
