-- Numbers in the names of trace files. (Of the code alone: no promise rests on these words.)
use Rattle.std.specs.Prelude.{ℕ, ◌-◌, ◌&&◌, nat_le, if◌then◌else◌}

-- the value of a letter as a decimal digit
abbrev pub digit_value : ℕ → ℕ
digit_value letter = if nat_le 48 letter && nat_le letter 57 then letter - 48 else 0
