use Rattle.std.proofs.Common.{◌≡◌, List, map}
use Rattle.std.specs.List.{range_with_len}
use Rattle.dl_sessions.specs.declared.session.Told.{Told}
use Rattle.dl_timeline.specs.Timeline.{IsTimeline, bin_of}
use Rattle.dl_timeline.proofs.timeline.Timeline.bins.Given as goal

abbrev pub invariant-loop-column : goal.invariant-loop-column
invariant-loop-column l = (stream : List Told) → IsTimeline stream l.self → l.bins.items ≡ map (bin_of stream l.session) (range_with_len 0 l.column)
