use Rattle.std.proofs.Common.{◌≡◌, ◌≢◌, ℕ, ◌<◌, Some, slice_get}
use Rattle.dl_writer.specs.State.{BookState}
use Rattle.dl_writer.proofs.book_list.BookList.place_of.Given as goal

abbrev pub invariant-loop-place : goal.invariant-loop-place
invariant-loop-place l = (place : ℕ) (b : BookState) → place < l.place → slice_get l.self place ≡ Some b → b.writer.push.number ≢ l.number
