use Rattle.std.proofs.Common.{◌≡◌, take}
use Rattle.std.specs.List.{list_any}
use Rattle.dl_script_fields.specs.Argument.{is_escapable}
use Rattle.dl_script_fields.proofs.cut.has_mark.Given as goal

-- whether one is among those so far
abbrev pub invariant-loop-byte : goal.invariant-loop-byte
invariant-loop-byte l = l.found ≡ list_any is_escapable (take l.byte-index l.piece)
