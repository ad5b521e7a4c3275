use Rattle.std.proofs.Common.{◌≡◌, drop}
use Rattle.std.specs.Prelude.{fold, ◌^◌, ◌-◌}
use Rattle.dl_timeline.specs.Timeline.{greatest, least}
use Rattle.dl_timeline.proofs.timeline.axis_of.Given as goal

-- what is left, from what was found so far, gives what all gives
abbrev pub invariant-loop-told : goal.invariant-loop-told
invariant-loop-told l = record {
  first : fold least l.axis.first (drop l.told-index l.stream) ≡ fold least (2 ^ 32 - 1) l.stream;
  last : fold greatest l.axis.last (drop l.told-index l.stream) ≡ fold greatest 0 l.stream;
}
