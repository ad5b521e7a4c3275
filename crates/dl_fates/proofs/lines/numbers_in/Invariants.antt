use Rattle.std.proofs.Common.{◌≡◌, ◌+◌, ◌++◌, length}
use Rattle.std.specs.Prelude.{◌<◌, ◌^◌}
use Rattle.dl_text.specs.Lines.{lines_of}
use Rattle.dl_fates.specs.Lines.{numbers_from}
use Rattle.dl_fates.proofs.lines.numbers_in.Given as goal

-- the numbers so far, with those of the lines that are left, are those of all lines
abbrev pub invariant-loop-line : goal.invariant-loop-line
invariant-loop-line l = record {
  numbers : l.numbers.items ++ numbers_from (l.number + 1) l.line-iterator ≡ numbers_from 1 (lines_of l.fn.text);
  lines : l.number + length l.line-iterator < 2 ^ 63;
}
