use Rattle.std.proofs.Common.{◌≡◌, ◌+◌, ◌-◌, ◌≤◌, length, vec_len}
use Rattle.std.specs.Str.{IsUtf8}
use Rattle.dl_script_fields.specs.Fields.{fields_of, fields_upto, texts}
use Rattle.dl_script_fields.proofs.Cutting.{with_front}
use Rattle.dl_script_fields.proofs.cut.cut_into.Given as goal

-- what is left is text; each field took a byte at least; the fields so far, and those of what is left, are those of the line
abbrev pub invariant-loop-rest : goal.invariant-loop-rest
invariant-loop-rest l = record {
  utf8 : IsUtf8 l.text;
  used : length l.text + vec_len l.fields ≤ length l.line;
  told : with_front (texts l.fields.items) (fields_upto (length l.line - vec_len l.fields) l.text) ≡ fields_of l.line;
}

abbrev pub decreases-loop-rest : goal.decreases-loop-rest
decreases-loop-rest l = length l.text
