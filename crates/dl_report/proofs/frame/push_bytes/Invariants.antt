use Rattle.std.proofs.Common.{◌≡◌, ◌++◌}
use Rattle.std.specs.List.{flat_map}
use Rattle.std.specs.Slice.Iter.{chunks_rest, chunks_size}
use Rattle.dl_report.specs.Line.{spelled}
use Rattle.dl_report.proofs.frame.push_bytes.Given as goal

-- the text so far, with the bytes that are left, is all
abbrev pub invariant-loop-piece : goal.invariant-loop-piece
invariant-loop-piece l = record {
  size : chunks_size l.piece-iterator ≡ 64;
  text : l.text.items ++ flat_map spelled (chunks_rest l.piece-iterator) ≡ l.initial.text.items ++ flat_map spelled l.bytes;
}
