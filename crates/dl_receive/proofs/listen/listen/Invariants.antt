use Rattle.std.proofs.Common.{◌-◌}
use Rattle.dl_receive.specs.Listening.{IsListening, sides}
use Rattle.dl_receive.proofs.listen.listen.Given as goal

-- what the source gave so far is printed
abbrev pub invariant-loop-total : goal.invariant-loop-total
invariant-loop-total g l = IsListening l.fn.counting
    (sides (g.S.Source.told l.fn.source) (g.O.Sink.told l.fn.out))
    (sides (g.S.Source.told l.source) (g.O.Sink.told l.out))
    l.total l.receiver

abbrev pub decreases-loop-total : goal.decreases-loop-total
decreases-loop-total g l = 1099511627776 - l.total
