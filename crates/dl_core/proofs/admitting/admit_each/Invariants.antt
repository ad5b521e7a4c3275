use Rattle.std.proofs.Common.{take, drop}
use Rattle.dl_core.proofs.Gathered.{Gathered}
use Rattle.dl_core.proofs.admitting.admit_each.Given as goal

abbrev pub invariant-loop-item : goal.invariant-loop-item
invariant-loop-item g l =
    Gathered l.ecu l.moment (take l.item-index l.items) (drop l.item-index l.items) l.fn.hub l.hub l.fn.writer l.writer
    (g.J.Journal.events l.fn.journal) (g.J.Journal.events l.journal) (g.J.Journal.noted l.fn.journal) (g.J.Journal.noted l.journal) (g.J.Journal.spare l.fn.journal) (g.J.Journal.spare l.journal)
