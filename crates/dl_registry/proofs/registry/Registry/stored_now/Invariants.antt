use Rattle.std.proofs.Common.{◌≡◌, map}
use Rattle.std.specs.List.{flat_map}
use Rattle.std.specs.Map.Iter.{deref_pair}
use Rattle.dl_model.specs.Registry.{owns_of_app}
use Rattle.dl_registry.proofs.registry.Registry.stored_now.Given as goal

abbrev pub invariant-loop-apid : goal.invariant-loop-apid
invariant-loop-apid l = l.own.items ≡ flat_map owns_of_app (map deref_pair l.yielded)
