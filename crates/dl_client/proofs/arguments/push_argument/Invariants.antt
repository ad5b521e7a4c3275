use Rattle.std.proofs.Common.{◌≡◌, ◌+◌, ◌++◌, ◌≤◌, drop, length}
use Rattle.byteorder.specs.Endian.{little_bytes}
use Rattle.dl_args.specs.Argument.{joined}
use Rattle.dl_client.specs.Area.{held}
use Rattle.dl_client.proofs.arguments.push_argument.Given as goal

abbrev pub invariant-loop-field : goal.invariant-loop-field
invariant-loop-field l = record {
  bytes : held l.payload ++ joined (drop l.field-index l.fields) ≡ (held l.fn.payload ++ little_bytes 4 l.fn.info) ++ joined l.fields;
  room : length (held l.payload) + length (joined (drop l.field-index l.fields)) ≤ length l.payload.bytes.now;
  size : length l.payload.bytes.now ≡ length l.fn.payload.bytes.now;
}
