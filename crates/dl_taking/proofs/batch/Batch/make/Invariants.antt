use Rattle.std.proofs.Common.{◌≡◌, ◌≤◌, length}
use Rattle.std.specs.Prelude.{vec_capacity}
use Rattle.dl_taking.proofs.batch.Batch.make.Given as goal

-- so many places are there
abbrev pub invariant-loop-place : goal.invariant-loop-place
invariant-loop-place l = (length l.items.items ≡ l._place) × (64 ≤ vec_capacity l.items)
