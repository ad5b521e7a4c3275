use Rattle.std.proofs.Common.{◌≡◌, ◌++◌, length, map}
use Rattle.std.specs.List.{flat_map}
use Rattle.std.specs.Map.Iter.{deref_pair}
use Rattle.byteorder.specs.Endian.{little_bytes}
use Rattle.dl_model.specs.Reply.{listed}
use Rattle.dl_registry.specs.Info.{info_of}
use Rattle.dl_registry.proofs.registry.Registry.push_info.Given as goal

abbrev pub invariant-loop-id : goal.invariant-loop-id
invariant-loop-id l =
    l.body.items ≡ l.fn.body.items ++ (little_bytes 2 (length (listed l.self.registry l.apid l.ctid)) ++ flat_map (info_of l.options l.apid l.ctid) (map deref_pair l.yielded))
