use Rattle.std.proofs.Common.{◌≡◌, ◌++◌, map}
use Rattle.std.specs.List.{filter_map}
use Rattle.std.specs.Map.Iter.{deref_pair}
use Rattle.dl_model.specs.Registry.{own_of_context}
use Rattle.dl_registry.proofs.registry.push_owns.Given as goal

abbrev pub invariant-loop-ctid : goal.invariant-loop-ctid
invariant-loop-ctid l = l.owns.items ≡ l.fn.owns.items ++ filter_map (own_of_context l.apid) (map deref_pair l.yielded)
