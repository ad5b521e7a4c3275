use Rattle.std.proofs.Common.{◌≡◌, ◌+◌, ◌++◌, ◌≤◌, drop, length}
use Rattle.byteorder.specs.Endian.{little_bytes}
use Rattle.dl_args.specs.Argument.{joined}
use Rattle.dl_args.proofs.write.append.Given as goal

abbrev pub invariant-loop-field : goal.invariant-loop-field
invariant-loop-field l = record {
  bytes : l.payload.bytes ++ joined (drop l.field-index l.fields) ≡ (l.fn.payload.bytes ++ little_bytes 4 l.fn.info) ++ joined l.fields;
  room : length l.payload.bytes + length (joined (drop l.field-index l.fields)) ≤ 1390;
  args : l.payload.args ≡ l.fn.payload.args;
}
