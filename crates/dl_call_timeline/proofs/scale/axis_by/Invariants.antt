use Rattle.std.proofs.Common.{◌≡◌, drop}
use Rattle.std.specs.Prelude.{fold, ◌^◌, ◌-◌}
use Rattle.dl_call_timeline.specs.Scale.{greatest, least}
use Rattle.dl_call_timeline.proofs.scale.axis_by.Given as goal

-- what is left, from what was found so far, gives what all gives
abbrev pub invariant-loop-call : goal.invariant-loop-call
invariant-loop-call l = record {
  first : fold (least l.timed) l.first (drop l.call-index l.calls) ≡ fold (least l.timed) (2 ^ 64 - 1) l.calls;
  last : fold (greatest l.timed) l.last (drop l.call-index l.calls) ≡ fold (greatest l.timed) 0 l.calls;
}
