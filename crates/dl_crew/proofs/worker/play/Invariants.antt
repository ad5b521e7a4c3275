use Rattle.std.proofs.Common.{[], take}
use Rattle.dl_crew.specs.Plays.{LinesInTurn}
use Rattle.dl_crew.proofs.PlayedScripts.{HasCome}
use Rattle.dl_crew.proofs.worker.play.Given as goal

abbrev pub invariant-loop-line : goal.invariant-loop-line
invariant-loop-line g l = record {
  come : HasCome l.plan.contexts l.work.own (take l.line-index l.plan.lines) l.fn.book l.work.book;
  in_turn : LinesInTurn l.plan.contexts [] l.work.own (take l.line-index l.plan.lines) l.fn.book l.work.book;
}
