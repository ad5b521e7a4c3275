use Rattle.std.proofs.Common.{◌≡◌, map}
use Rattle.std.specs.List.{range_with_len}
use Rattle.dl_opening.specs.Scenario.{script_of}
use Rattle.dl_opening.proofs.clients.scripts.Given as goal

abbrev pub invariant-loop-client : goal.invariant-loop-client
invariant-loop-client l = l.scripts.items ≡ map (script_of l.lines) (range_with_len 1 l.client)
