use Rattle.std.proofs.Common.{◌≡◌, ◌+◌, ◌≤◌, length, drop}
use Rattle.std.specs.Prelude.{sum}
use Rattle.dl_fates.proofs.sizes.going.Given as goal

abbrev pub invariant-loop-first : goal.invariant-loop-first
invariant-loop-first l = (l.first ≤ length l.sizes) × (sum (drop l.first l.sizes) + l.room ≡ l.limit)

abbrev pub decreases-loop-first : goal.decreases-loop-first
decreases-loop-first l = l.first
