use Rattle.std.proofs.Common.{◌≡◌, map}
use Rattle.std.specs.List.{range_with_len}
use Rattle.dl_call_timeline.specs.Names.{column_name}
use Rattle.dl_call_timeline.proofs.names.column_names.Given as goal

abbrev pub invariant-loop-column : goal.invariant-loop-column
invariant-loop-column l = map (λ name. name.items) l.names.items ≡ map (column_name l.scale) (range_with_len 0 l.column)
