use Rattle.std.proofs.Common.{◌≡◌, ◌++◌, List, drop}
use Rattle.dl_timeline.specs.Timeline.{KeepsReports, reports_from}
use Rattle.dl_timeline.specs.declared.timeline.Report.{Report}
use Rattle.dl_timeline.proofs.timeline.add_reports.Given as goal

-- the reports so far, and what is to come of the rest
abbrev pub invariant-loop-told : goal.invariant-loop-told
invariant-loop-told l = (so_far : List Report) × KeepsReports l.reports so_far × (so_far ++ reports_from l.axis l.column (drop l.told-index l.stream) ≡ reports_from l.axis 0 l.stream)
