use Rattle.std.proofs.Common.{◌≡◌, ◌≤◌, length}
use Rattle.std.specs.List.{filter_map, range_with_len}
use Rattle.dl_core.specs.Waiting.{other_at}
use Rattle.dl_core.proofs.daemon.Core.others.Given as goal

abbrev pub invariant-loop-slot : goal.invariant-loop-slot
invariant-loop-slot l = record {
  number : l.count ≡ length (filter_map (other_at l.fn.level l.fn.self.registry.registry) (range_with_len 0 l.slot));
  small : l.count ≤ l.slot;
}
