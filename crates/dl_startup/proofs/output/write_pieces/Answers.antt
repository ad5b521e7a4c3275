use Rattle.dl_startup.proofs.Sinks.{one_more, stops_there}
use Rattle.dl_startup.proofs.output.write_pieces.Goals as goal

pub returns-in-Err-clause-front : goal.returns-in-Err-clause-front
returns-in-Err-clause-front g c =
    stops_there (g.O.Sink.told c.args.out.now) (g.O.Sink.told c.loop-piece.out) (g.O.Sink.told c.write_text.new.out) c.args.pieces.now c.loop-piece.piece-index _ c.loop-piece-test.true c.loop-piece.invariant c.in-Err.ensures.front

pub loop-piece-preserved : goal.loop-piece-preserved
loop-piece-preserved g c =
    one_more (g.O.Sink.told c.args.out.now) (g.O.Sink.told c.loop-piece.out) (g.O.Sink.told c.write_text.new.out) c.args.pieces.now c.loop-piece.piece-index _ c.loop-piece-test.true c.loop-piece.invariant c.in-Ok.ensures.ok
