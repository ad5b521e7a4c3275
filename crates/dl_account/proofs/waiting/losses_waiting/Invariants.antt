use Rattle.std.proofs.Common.{◌≡◌, ℕ, ◌+◌, ◌<◌, length}
use Rattle.std.specs.Prelude.{slice_index}
use Rattle.dl_cells.specs.Losses.{counted_of, reported_of}
use Rattle.dl_account.proofs.waiting.losses_waiting.Given as goal

abbrev pub invariant-loop-app : goal.invariant-loop-app
invariant-loop-app l = record {
  same : l.handles ≡ l.fn.handles;
  long : length l.losses ≡ 16;
  each : (app : ℕ) → app < l.app → reported_of app l.handles.losses.reported + slice_index l.losses app ≡ counted_of app l.handles.losses.counted;
}
