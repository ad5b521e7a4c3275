use Rattle.std.proofs.Common.{◌++◌, List, map, take}
use Rattle.dl_sessions.specs.Account.{IsAfter, totals_of}
use Rattle.dl_sessions.specs.Gaps.{entries}
use Rattle.dl_sessions.specs.declared.session.Told.{Told}
use Rattle.dl_timeline.specs.Timeline.{KeepsMarks, hole_mark}
use Rattle.dl_timeline.specs.declared.timeline.SpotMark.{SpotMark}
use Rattle.dl_timeline.proofs.timeline.add_holes.Given as goal

-- the holes so far
abbrev pub invariant-loop-hole : goal.invariant-loop-hole
invariant-loop-hole l = (stream : List Told) (marks : List SpotMark) → IsAfter stream l.account → KeepsMarks l.initial.spots marks
    → KeepsMarks l.spots (marks ++ map (hole_mark l.axis (λ session. totals_of session (entries stream))) (take l.hole-index l.holes))
