use Rattle.std.proofs.Common.{◌≡◌, ◌+◌, drop, false}
use Rattle.std.specs.Option.{option_map}
use Rattle.dl_script_fields.specs.Fields.{quoted_len}
use Rattle.dl_script_fields.proofs.cut.escaped_len.Given as goal

-- what is left of the text ends where the whole does
abbrev pub invariant-loop-i : goal.invariant-loop-i
invariant-loop-i l = option_map (λ n. l.i + n) (quoted_len l.escaped (drop l.i l.text)) ≡ quoted_len false l.text
