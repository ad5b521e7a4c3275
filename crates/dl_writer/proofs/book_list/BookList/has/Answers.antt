use Rattle.std.proofs.Common.{rules, ◌≡◌, ◌≤◌, ℕ, Option, Some, None, IfSome, IfNone, IsTrue, slice_get, arith, List}
use Rattle.std.specs.Option.{is_some}
use Rattle.dl_cells.specs.Views.{times}
use Rattle.dl_writer.specs.State.{BookState, numbers}
use Rattle.dl_writer.proofs.Books.{is_among}
use Rattle.dl_writer.proofs.book_list.BookList.has.Goals as goal

found_so : (books : List BookState) (number : ℕ) (found : Option ℕ)
    → IfSome found (λ place. (b : BookState) × (slice_get books place ≡ Some b) × (b.writer.push.number ≡ number)) → IfNone found (times number (numbers books) ≡ 0)
    → (IsTrue (is_some found) → 1 ≤ times number (numbers books)) × (1 ≤ times number (numbers books) → IsTrue (is_some found))
found_so books number (Some place) at none = (λ _. is_among books place number at.0 at.1 at.2, λ _. search rules)
found_so books number None at none = (λ is. absurd cc, λ some. absurd (omega (arith, some, none)))

pub returns : goal.returns
returns c = rw c.is_some.ensures (found_so c.args.self.now c.args.number c.place_of.result c.place_of.ensures.found c.place_of.ensures.none)
