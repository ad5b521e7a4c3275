use Rattle.std.proofs.Common.{◌≡◌, ◌≤◌, drop}
use Rattle.std.specs.Prelude.{fold, max}
use Rattle.dl_picture.specs.declared.chart.Bin.{Bin}
use Rattle.dl_picture.proofs.row.greatest_of.Given as goal

-- what is left, from the greatest so far, gives what all gives
abbrev pub invariant-loop-bin : goal.invariant-loop-bin
invariant-loop-bin l = record {
  greatest : fold (λ most (bin : Bin). max most bin.messages) l.greatest (drop l.bin-index l.bins) ≡ fold (λ most (bin : Bin). max most bin.messages) 1 l.bins;
  some : 1 ≤ l.greatest;
}
