use Rattle.std.proofs.Common.{take}
use Rattle.std.specs.List.{flat_map}
use Rattle.dl_timeline.specs.Timeline.{KeepsMarks, message_mark}
use Rattle.dl_timeline.proofs.timeline.add_messages.Given as goal

-- the messages so far
abbrev pub invariant-loop-told : goal.invariant-loop-told
invariant-loop-told l = KeepsMarks l.spots (flat_map (message_mark l.axis) (take l.told-index l.stream))
