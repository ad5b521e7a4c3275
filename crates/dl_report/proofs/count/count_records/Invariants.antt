use Rattle.std.proofs.Common.{take}
use Rattle.dl_report.specs.Counts.{HasCounted}
use Rattle.dl_report.proofs.count.count_records.Given as goal

abbrev pub invariant-loop-record : goal.invariant-loop-record
invariant-loop-record l = HasCounted (take l.record-index l.records) l.initial.table l.table
