use Rattle.std.proofs.Common.{◌≡◌, ◌+◌, option_map, length}
use Rattle.std.specs.List.{position}
use Rattle.dl_script_fields.specs.Argument.{is_escapable}
use Rattle.dl_script_fields.proofs.cut.first_mark.Given as goal

-- the first is behind those that were passed
abbrev pub invariant-loop-piece : goal.invariant-loop-piece
invariant-loop-piece l = record {
  behind : option_map (λ n. l.passed + n) (position is_escapable l.rest) ≡ position is_escapable l.text;
  within : l.passed + length l.rest ≡ length l.text;
}

abbrev pub decreases-loop-piece : goal.decreases-loop-piece
decreases-loop-piece l = length l.rest
