use Rattle.std.proofs.Common.{replicate}
use Rattle.dl_crew.specs.Calls.{content}
use Rattle.dl_crew.specs.Plays.{Makes}
use Rattle.dl_crew.proofs.worker.make_calls.Given as goal

abbrev pub invariant-loop-call : goal.invariant-loop-call
invariant-loop-call g l = Makes (replicate l._call (content l.calls.ctx l.calls.severity l.calls.payload)) l.initial.book l.book
