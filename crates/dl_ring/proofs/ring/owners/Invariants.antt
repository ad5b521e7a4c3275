use Rattle.std.proofs.Common.{◌≡◌, vec_len}
use Rattle.std.specs.List.{All}
use Rattle.std.specs.Arc.{arc_value}
use Rattle.dl_ring.specs.Passes.{Owns}
use Rattle.dl_ring.proofs.ring.owners.Given as goal

abbrev pub invariant-loop-number : goal.invariant-loop-number
invariant-loop-number l = record { len : vec_len l.owners ≡ l._number; all : All (Owns (arc_value l.ring)) l.owners.items }
