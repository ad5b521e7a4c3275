use Rattle.std.proofs.Common.{◌≡◌, map}
use Rattle.std.specs.List.{range_with_len}
use Rattle.dl_timeline.specs.Timeline.{column_name}
use Rattle.dl_timeline.proofs.timeline.column_names.Given as goal

abbrev pub invariant-loop-column : goal.invariant-loop-column
invariant-loop-column l = map (λ name. name.items) l.names.items ≡ map (column_name l.axis) (range_with_len 0 l.column)
