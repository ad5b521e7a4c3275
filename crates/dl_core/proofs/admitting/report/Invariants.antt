use Rattle.dl_trace.specs.Writer.{trace_in}
use Rattle.dl_core.proofs.Admitted.{Reported}
use Rattle.dl_core.proofs.admitting.report.Given as goal

abbrev pub invariant-loop-left : goal.invariant-loop-left
invariant-loop-left g l =
    Reported l.ecu l.apid l.count l.moment l.left l.fn.hub l.hub (trace_in l.fn.writer) (trace_in l.writer) (g.F.Folder.told l.fn.folder) (g.F.Folder.told l.folder)

abbrev pub decreases-loop-left : goal.decreases-loop-left
decreases-loop-left g l = l.left
