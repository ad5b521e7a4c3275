use Rattle.std.proofs.Common.{◌≡◌, ◌+◌, ◌≤◌, length, drop}
use Rattle.std.specs.Prelude.{sum_by}
use Rattle.dl_trace.specs.Steps.{bytes_in}
use Rattle.dl_trace.proofs.files.going.Given as goal

abbrev pub invariant-loop-first : goal.invariant-loop-first
invariant-loop-first l = (l.first ≤ length l.files) × (sum_by bytes_in (drop l.first l.files) + l.room ≡ l.limit)

abbrev pub decreases-loop-first : goal.decreases-loop-first
decreases-loop-first l = l.first
