use Rattle.std.proofs.Common.{◌≡◌, ◌++◌, length, option_map, string_bytes}
use Rattle.std.specs.Str.Iter.{chars_rest}
use Rattle.dl_script_fields.specs.Argument.{unescaped}
use Rattle.dl_script_fields.proofs.argument.unescape.Given as goal

-- what was read and what is left say what all of it says
abbrev pub invariant-loop-c : goal.invariant-loop-c
invariant-loop-c l = option_map (λ text. string_bytes l.text ++ text) (unescaped (chars_rest l.chars)) ≡ unescaped l.quoted

abbrev pub decreases-loop-c : goal.decreases-loop-c
decreases-loop-c l = length (chars_rest l.chars)
