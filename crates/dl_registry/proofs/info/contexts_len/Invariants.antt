use Rattle.std.proofs.Common.{◌≡◌, ◌-◌, ◌^◌, min, length, map}
use Rattle.std.specs.List.{filter, flat_map}
use Rattle.std.specs.Map.Iter.{deref_pair}
use Rattle.dl_model.specs.Registry.{names}
use Rattle.dl_model.specs.Reply.{context_info}
use Rattle.dl_registry.proofs.info.contexts_len.Given as goal

abbrev pub invariant-loop-id : goal.invariant-loop-id
invariant-loop-id l = l.len ≡ min (2 ^ 64 - 1) (length (flat_map (context_info l.options) (filter (λ entry. names l.ctid entry.0) (map deref_pair l.yielded))))
