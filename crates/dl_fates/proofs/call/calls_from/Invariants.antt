use Rattle.std.proofs.Common.{◌≡◌, ◌≤◌, drop, length}
use Rattle.std.specs.Prelude.{reverse}
use Rattle.dl_fates.specs.Lines.{placed}
use Rattle.dl_fates.specs.Calls.{calls_from}
use Rattle.dl_fates.specs.Ahead.{Foretells}
use Rattle.dl_fates.proofs.call.calls_from.Given as goal

-- the calls from this place on, the last one first, and what is kept of these lines
abbrev pub invariant-loop-place : goal.invariant-loop-place
invariant-loop-place l = record {
  calls : reverse l.calls.items ≡ calls_from l.owners (placed (drop l.place l.numbers) (drop l.place l.steps));
  ahead : Foretells l.owners (placed (drop l.place l.numbers) (drop l.place l.steps)) l.ahead;
  numbers : l.place ≤ length l.numbers;
  steps : l.place ≤ length l.steps;
}

abbrev pub decreases-loop-place : goal.decreases-loop-place
decreases-loop-place l = l.place
