use Rattle.std.proofs.Common.{length, ◌-◌}
use Rattle.dl_admission.proofs.Slows.{SoFar}
use Rattle.dl_admission.proofs.slow.close_slow.Given as goal

-- the clients up to this number were looked at
abbrev pub invariant-loop-client : goal.invariant-loop-client
invariant-loop-client g l =
    SoFar l.fn.need l.after l.fn.core l.core (g.J.Journal.events l.fn.journal) (g.J.Journal.events l.journal)
    (g.J.Journal.noted l.fn.journal) (g.J.Journal.noted l.journal) (g.J.Journal.spare l.fn.journal) (g.J.Journal.spare l.journal)

abbrev pub decreases-loop-client : goal.decreases-loop-client
decreases-loop-client g l = length l.core.hub.clients - l.after
