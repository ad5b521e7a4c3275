use Rattle.std.proofs.Common.{take}
use Rattle.dl_call_timeline.specs.Records.{KeepsColumns}
use Rattle.dl_call_timeline.proofs.records.Columns.of.Given as goal

-- the records of the calls so far
abbrev pub invariant-loop-call : goal.invariant-loop-call
invariant-loop-call l = KeepsColumns l.scale (take l.call-index l.calls) l.columns.records
