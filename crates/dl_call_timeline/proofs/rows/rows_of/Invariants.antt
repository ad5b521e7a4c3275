use Rattle.std.proofs.Common.{◌≡◌, ◌≤◌, ◌+◌, ◌++◌, drop, length, map}
use Rattle.dl_picture.specs.Row.{shown}
use Rattle.dl_picture.specs.Tally.{Keeps}
use Rattle.dl_call_timeline.specs.Marks.{marks_of}
use Rattle.dl_call_timeline.specs.Timeline.{rows_from}
use Rattle.dl_call_timeline.specs.declared.scale.Scale.{Scale}
use Rattle.dl_call_timeline.proofs.rows.rows_of.Given as goal

-- the rows so far, with those of the writers that are left, are all
abbrev pub invariant-loop-place : goal.invariant-loop-place
invariant-loop-place l = record {
  rows : (scale : Scale) → Keeps l.tally (marks_of scale l.calls)
      → map shown l.rows.items ++ rows_from l.ecu scale l.calls (l.place + 1) (drop l.place l.writers) ≡ rows_from l.ecu scale l.calls 1 l.writers;
  within : l.place ≤ length l.writers;
}
