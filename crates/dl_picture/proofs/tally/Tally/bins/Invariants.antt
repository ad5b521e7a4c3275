use Rattle.std.proofs.Common.{◌≡◌, map}
use Rattle.std.specs.Prelude.{unwrap_or}
use Rattle.std.specs.HashMap as hash
use Rattle.std.specs.List.{range_with_len}
use Rattle.dl_picture.specs.Tally.{no_bin, same_cell}
use Rattle.dl_picture.proofs.tally.Tally.bins.Given as goal

-- the columns so far
abbrev pub invariant-loop-column : goal.invariant-loop-column
invariant-loop-column l = l.bins.items ≡ map (λ column. unwrap_or (hash.get same_cell l.self.bins (record { row = l.row; column = column })) no_bin) (range_with_len 0 l.column)
