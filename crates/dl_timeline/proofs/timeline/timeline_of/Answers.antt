use Rattle.std.proofs.Common.{ℕ, false, List, ◌++◌, map, codes, ap, ◌∙◌}
use Rattle.std.specs.List.{range_with_len}
use Rattle.dl_picture.specs.declared.axis.Axis.{Axis}
use Rattle.dl_timeline.specs.Timeline.{column_name}
use Rattle.dl_timeline.proofs.timeline.timeline_of.Goals as goal

pub returns : goal.returns
returns c = λ after.
    let timeline_is = c.in_ok-timeline.ensures after in
    let title = c.in_ok-extend_from_slice.ensures.items ∙ ap (λ (l : List ℕ). l ++ codes "Messages by time, in seconds") c.new-title.ensures.items in
    let columns = c.in_ok-column_names.ensures ∙ ap (λ (a : Axis). map (column_name a) (range_with_len 0 120)) timeline_is.axis_is in
    let rows = c.in_ok-rows.ensures c.args.stream.now after timeline_is in
    λ i. record { title = title i; columns = columns i; rows = rows i; filters = false }
