use Rattle.std.proofs.Common.{◌≡◌, ◌≤◌, ◌++◌, drop, length, map}
use Rattle.dl_picture.specs.Row.{bins_from, greatest_of}
use Rattle.dl_picture.proofs.row.push_bins.Given as goal

-- what is there, with the columns that are left, is all
abbrev pub invariant-loop-column : goal.invariant-loop-column
invariant-loop-column l = record {
  text : l.text.items ++ bins_from l.top (greatest_of l.bins) (map (λ name. name.items) l.names) l.column (drop l.column l.bins)
      ≡ l.initial.text.items ++ bins_from l.top (greatest_of l.bins) (map (λ name. name.items) l.names) 0 l.bins;
  within : l.column ≤ length l.bins;
}
