use Rattle.std.proofs.Common.{◌≡◌, length}
use Rattle.dl_core.proofs.GatheredMessages.{GatheredMessages}
use Rattle.dl_core.proofs.admitting.admit_messages.Given as goal

abbrev pub invariant-loop-msg : goal.invariant-loop-msg
invariant-loop-msg g l = record {
  so : GatheredMessages l.ecu l.moment l.channel l.fn.msgs.items l.msgs.items l.fn.hub l.hub l.fn.writer l.writer
      (g.J.Journal.events l.fn.journal) (g.J.Journal.events l.journal) (g.J.Journal.noted l.fn.journal) (g.J.Journal.noted l.journal) (g.J.Journal.spare l.fn.journal) (g.J.Journal.spare l.journal);
  capacity : l.msgs.capacity ≡ l.fn.msgs.capacity;
}

abbrev pub decreases-loop-msg : goal.decreases-loop-msg
decreases-loop-msg g l = length l.msgs.items
