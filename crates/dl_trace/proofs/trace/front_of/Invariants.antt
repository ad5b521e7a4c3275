use Rattle.std.proofs.Common.{◌≡◌, ◌+◌, ◌-◌, ◌≤◌, take, drop}
use Rattle.std.specs.Prelude.{sum}
use Rattle.dl_trace.specs.Batch.{fit}
use Rattle.dl_trace.proofs.trace.front_of.Given as goal

abbrev pub invariant-loop-size : goal.invariant-loop-size
invariant-loop-size l = record {
  frames : l.piece.frames ≡ l.size-index;
  bytes : l.piece.bytes ≡ sum (take l.size-index l.sizes);
  room : l.piece.bytes ≤ l.room;
  fits : fit l.room l.sizes ≡ l.size-index + fit (l.room - l.piece.bytes) (drop l.size-index l.sizes);
}
