use Rattle.std.proofs.Common.{◌≡◌, length}
use Rattle.dl_admission.specs.Part.{part}
use Rattle.dl_admission.proofs.AllForwarded.{Forwarded}
use Rattle.dl_admission.proofs.messages.admit_each.Given as goal

-- the messages so far are forwarded
abbrev pub invariant-loop-msg : goal.invariant-loop-msg
invariant-loop-msg g l = record {
  so : Forwarded l.moment l.channel l.fn.msgs.items l.msgs.items (part l.fn.core (g.J.Journal.events l.fn.journal) (g.F.Folder.told l.fn.folder))
      (part l.core (g.J.Journal.events l.journal) (g.F.Folder.told l.folder)) (g.J.Journal.noted l.fn.journal) (g.J.Journal.noted l.journal) (g.J.Journal.spare l.fn.journal) (g.J.Journal.spare l.journal);
  capacity : l.msgs.capacity ≡ l.fn.msgs.capacity;
}

abbrev pub decreases-loop-msg : goal.decreases-loop-msg
decreases-loop-msg g l = length l.msgs.items
