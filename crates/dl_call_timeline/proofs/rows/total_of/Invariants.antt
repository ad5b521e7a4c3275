use Rattle.std.proofs.Common.{◌≡◌, drop}
use Rattle.std.specs.Prelude.{fold}
use Rattle.dl_picture.specs.Tally.{no_bin}
use Rattle.dl_call_timeline.specs.Timeline.{with_call}
use Rattle.dl_call_timeline.proofs.rows.total_of.Given as goal

-- what is left, from what was counted so far, gives what all gives
abbrev pub invariant-loop-call : goal.invariant-loop-call
invariant-loop-call l = fold (with_call l.writer) l.total (drop l.call-index l.calls) ≡ fold (with_call l.writer) no_bin l.calls
