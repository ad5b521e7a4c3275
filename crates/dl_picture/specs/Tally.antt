-- What each column of each row counts: marks, added up.
use Rattle.std.specs.Prelude.{◌≡◌, ℕ, ◌+◌, ◌-◌, ◌^◌, ◌==◌, ◌&&◌, min, max, Bool, List, map, fold, unwrap_or, if◌then◌else◌}
use Rattle.std.specs.HashMap as hash
use Rattle.std.specs.List.{range_with_len}
use Rattle.dl_picture.specs.declared.chart.Bin.{Bin}
use Rattle.dl_picture.specs.declared.tally.Cell.{Cell}
use Rattle.dl_picture.specs.declared.tally.Mark.{Mark}
use Rattle.dl_picture.specs.declared.tally.Tally.{Tally}

abbrev pub same_cell : Cell → Cell → Bool
same_cell a b = (a.row == b.row) && (a.column == b.column)

abbrev pub no_bin : Bin
no_bin = record { messages = 0; missing = 0; lost = 0; filtered = 0; first_line = 0; last_line = 0 }

-- a sum; it stops at the greatest number of 64 bits
abbrev pub sum_of : ℕ → ℕ → ℕ
sum_of a b = min (a + b) (2 ^ 64 - 1)

-- the first of two lines, where 0 is none
abbrev pub first_of : ℕ → ℕ → ℕ
first_of a b = if a == 0 then b else if b == 0 then a else min a b

-- two counts in one, and the lines of both
abbrev pub joined : Bin → Bin → Bin
joined a b = record {
  messages = sum_of a.messages b.messages;
  missing = sum_of a.missing b.missing;
  lost = sum_of a.lost b.lost;
  filtered = sum_of a.filtered b.filtered;
  first_line = first_of a.first_line b.first_line;
  last_line = max a.last_line b.last_line;
}

-- one mark more, where it is of this cell
abbrev pub counted : Cell → Bin → Mark → Bin
counted cell so_far mark = if same_cell mark.cell cell then joined so_far mark.bin else so_far

-- what a cell has after these marks
abbrev pub bin_of : Cell → List Mark → Bin
bin_of cell marks = fold (counted cell) no_bin marks

-- The 120 columns of a row, from left to right.
abbrev pub bins_of : ℕ → List Mark → List Bin
bins_of row marks = map (λ column. bin_of (record { row = row; column = column }) marks) (range_with_len 0 120)

-- what is kept of marks
abbrev pub Keeps : Tally → List Mark → Type 0
Keeps tally marks = (cell : Cell) → unwrap_or (hash.get same_cell tally.bins cell) no_bin ≡ bin_of cell marks
