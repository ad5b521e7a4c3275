use Rattle.std.proofs.Common.{◌≡◌, replicate, None}
use Rattle.dl_registry.proofs.table.no_levels.Given as goal

abbrev pub invariant-loop-slot : goal.invariant-loop-slot
invariant-loop-slot l = l.levels.items ≡ replicate l._slot None
