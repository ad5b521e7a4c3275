use Rattle.std.proofs.Common.{length, take}
use Rattle.dl_admission.specs.Admission.{Logs, Uses}
use Rattle.dl_admission.specs.Part.{part}
use Rattle.dl_admission.proofs.calls.log_each.Given as goal

-- the calls so far are admitted
abbrev pub invariant-loop-item : goal.invariant-loop-item
invariant-loop-item g l = record {
  logs : Logs l.moment (take l.item-index l.items)
      (part l.fn.core (g.J.Journal.events l.fn.journal) (g.F.Folder.told l.fn.folder)) (part l.core (g.J.Journal.events l.journal) (g.F.Folder.told l.folder));
  uses : Uses (length (take l.item-index l.items)) l.fn.core.hub l.core.hub
      (g.J.Journal.noted l.fn.journal) (g.J.Journal.noted l.journal) (g.J.Journal.spare l.fn.journal) (g.J.Journal.spare l.journal);
}
