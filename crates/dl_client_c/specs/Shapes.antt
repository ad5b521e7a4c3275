-- What C's numbers say of a number's shape.
use Rattle.std.specs.Prelude.{ℕ, ◌==◌, if◌then◌else◌}
use Rattle.dl_client.specs.declared.values.Format.{Format}
use Rattle.dl_client.specs.declared.values.Format.TheVariants.{Plain, Hex, Binary}
use Rattle.dl_client.specs.declared.values.Kind.{Kind}
use Rattle.dl_client.specs.declared.values.Kind.TheVariants as kind
use Rattle.dl_client.specs.declared.values.Shape.{Shape}
use Rattle.dl_client.specs.declared.values.Units.{Units}

-- 0 a truth value, 1 signed, 3 a float, all else unsigned
abbrev pub kind_of : ℕ → Kind
kind_of n = if n == 0 then kind.Bool else if n == 1 then kind.Signed else if n == 3 then kind.Float else kind.Unsigned

-- 1 hexadecimal, 2 binary, all else plain
abbrev pub format_of : ℕ → Format
format_of n = if n == 1 then Hex else if n == 2 then Binary else Plain

abbrev pub shape_of : ℕ → ℕ → Shape
shape_of k f = record { kind = kind_of k; format = format_of f }

abbrev pub units_of : ℕ → ℕ → Units
units_of format unit = record { format = format_of format; len = unit }
