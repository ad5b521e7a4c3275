use Rattle.std.proofs.Common.{◌≡◌, ◌-◌, ◌^◌, min, length, map}
use Rattle.std.specs.List.{flat_map}
use Rattle.std.specs.Map.Iter.{deref_pair}
use Rattle.dl_model.specs.Registry.{matching_in}
use Rattle.dl_registry.proofs.registry.Registry.matching_anywhere.Given as goal

abbrev pub invariant-loop-id : goal.invariant-loop-id
invariant-loop-id l = l.count ≡ min (2 ^ 64 - 1) (length (flat_map (matching_in l.apid l.ctid) (map deref_pair l.yielded)))
