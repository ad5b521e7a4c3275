use Rattle.std.proofs.Common.{◌≡◌, ◌-◌, ◌≤◌}
use Rattle.std.specs.List.{range_with_len}
use Rattle.dl_world.specs.Left.{links_in}
use Rattle.dl_world.proofs.ending.links_of.Given as goal

abbrev pub invariant-loop-client : goal.invariant-loop-client
invariant-loop-client l = record {
  some : 1 ≤ l.client;
  made : l.links.items ≡ links_in l.hub (range_with_len 1 (l.client - 1));
}
