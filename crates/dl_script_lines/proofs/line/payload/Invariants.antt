use Rattle.std.proofs.Common.{◌≡◌, ◌≤◌, drop, length}
use Rattle.dl_script_fields.specs.Fields.{texts}
use Rattle.dl_script_lines.specs.Line.{payload_fields}
use Rattle.dl_script_lines.proofs.Payloads.{with_fields}
use Rattle.dl_script_lines.proofs.line.payload.Given as goal

-- the payload so far, with the fields that are left, is that of all fields
abbrev pub invariant-loop-field : goal.invariant-loop-field
invariant-loop-field l = record {
  told : with_fields l.fits l.payload (texts (drop l.field-index l.fields)) ≡ payload_fields (texts l.fields);
  bytes : length l.payload.bytes ≤ 1390;
  args : l.payload.args ≤ 255;
}
