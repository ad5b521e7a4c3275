use Rattle.std.proofs.Common.{◌≡◌, All, vec_len}
use Rattle.std.specs.Arc.{arc_value}
use Rattle.dl_cells.proofs.sharing.owners.Given as goal

abbrev pub invariant-loop-n : goal.invariant-loop-n
invariant-loop-n g l = record { count : vec_len l.owners ≡ l._n; same : All (λ owner. arc_value owner ≡ arc_value l.shared) l.owners.items }
