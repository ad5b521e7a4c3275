use Rattle.std.proofs.Common.{◌≡◌, ◌++◌, drop}
use Rattle.dl_opening.specs.Scenario.{apps, handles_from}
use Rattle.dl_opening.proofs.Declared.{opened_to}
use Rattle.dl_opening.proofs.applications.contexts.Given as goal

abbrev pub invariant-loop-place : goal.invariant-loop-place
invariant-loop-place l = record {
  handles : l.contexts.items ++ handles_from l.lines l.place (drop l.place (apps l.lines)) ≡ handles_from l.lines 0 (apps l.lines);
  apps : l.list ≡ opened_to l.lines l.place 0 (apps l.lines);
}
