use Rattle.std.proofs.Common.{take}
use Rattle.std.specs.List.{flat_map}
use Rattle.dl_picture.specs.Tally.{Keeps}
use Rattle.dl_call_timeline.specs.Marks.{call_marks}
use Rattle.dl_call_timeline.proofs.marks.tally_of.Given as goal

-- the calls so far
abbrev pub invariant-loop-call : goal.invariant-loop-call
invariant-loop-call l = Keeps l.tally (flat_map (call_marks l.scale l.calls) (take l.call-index l.calls))
