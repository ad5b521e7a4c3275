-- A stretch of numbers, as of times or of lines, cut into 120 columns.
use Rattle.std.specs.Prelude.{ℕ, ◌+◌, ◌-◌, ◌*◌, ◌/◌, min}
use Rattle.dl_picture.specs.declared.axis.Axis.{Axis}

-- how many numbers it has, at least one
abbrev pub span_of : Axis → ℕ
span_of axis = axis.last - axis.first + 1

-- The column of a number: each has its part of the stretch.
abbrev pub column_of : Axis → ℕ → ℕ
column_of axis number = min ((number - axis.first) * 120 / span_of axis) 119

-- the number with which a column begins
abbrev pub start_of : Axis → ℕ → ℕ
start_of axis column = axis.first + column * span_of axis / 120
