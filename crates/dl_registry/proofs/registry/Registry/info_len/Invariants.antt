use Rattle.std.proofs.Common.{◌≡◌, ◌+◌, ◌-◌, ◌^◌, min, length, map}
use Rattle.std.specs.List.{flat_map}
use Rattle.std.specs.Map.Iter.{deref_pair}
use Rattle.dl_registry.specs.Info.{info_of}
use Rattle.dl_registry.proofs.registry.Registry.info_len.Given as goal

abbrev pub invariant-loop-id : goal.invariant-loop-id
invariant-loop-id l = l.len ≡ min (2 ^ 64 - 1) (6 + length (flat_map (info_of l.options l.apid l.ctid) (map deref_pair l.yielded)))
