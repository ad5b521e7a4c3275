use Rattle.std.proofs.Common.{◌≡◌, ℕ, ◌+◌, ◌<◌, ◌≤◌, length}
use Rattle.std.specs.Prelude.{slice_index}
use Rattle.dl_desk.specs.Lists.{At}
use Rattle.dl_account.specs.Books.{items_pushed_of}
use Rattle.dl_account.proofs.waiting.items_waiting.Given as goal

abbrev pub invariant-loop-app : goal.invariant-loop-app
invariant-loop-app l = record {
  long : length l.items ≡ 16;
  each : (app : ℕ) → app < l.app → At l.handles.apps app (λ e. length e.ring.taken ≤ items_pushed_of app l.books → length e.ring.taken + slice_index l.items app ≡ items_pushed_of app l.books);
}
