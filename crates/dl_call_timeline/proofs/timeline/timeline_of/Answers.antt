use Rattle.std.proofs.Common.{ℕ, true, List, ◌++◌, map, ap, ◌∙◌}
use Rattle.std.specs.List.{range_with_len}
use Rattle.dl_call_timeline.specs.Names.{column_name, title_of}
use Rattle.dl_call_timeline.specs.Timeline.{rows_from}
use Rattle.dl_call_timeline.specs.declared.scale.Scale.{Scale}
use Rattle.dl_call_timeline.proofs.timeline.timeline_of.Goals as goal

pub returns : goal.returns
returns c =
    let is = c.of-scale.ensures in
    let title = c.in_ok-extend_from_slice.ensures.items ∙ ap (λ (l : List ℕ). l ++ c.title.result.now) c.new-text.ensures.items ∙ c.title.ensures ∙ ap (λ (s : Scale). title_of s.timed) is in
    let columns = c.in_ok-column_names.ensures ∙ ap (λ (s : Scale). map (column_name s) (range_with_len 0 120)) is in
    let rows = c.in_ok-rows_of.ensures c.of-scale.result c.in_ok-tally.ensures ∙ ap (λ (s : Scale). rows_from c.args.ecu.now s c.args.calls.now 1 c.args.writers.now) is in
    λ i. record { title = title i; columns = columns i; rows = rows i; filters = true }
