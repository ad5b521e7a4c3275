use Rattle.dl_startup.proofs.Sinks.{WroteSoFar}
use Rattle.dl_startup.proofs.output.write_pieces.Given as goal

abbrev pub invariant-loop-piece : goal.invariant-loop-piece
invariant-loop-piece g l = WroteSoFar (g.O.Sink.told l.initial.out) (g.O.Sink.told l.out) l.pieces l.piece-index
