-- Sums over the books of one application, book by book.
use Rattle.std.proofs.Common.{◌≡◌, ◌≢◌, ℕ, ◌+◌, ◌-◌, ◌==◌, ◌^◌, min, List, [], ◌∷◌, ◌++◌, length, take, Some, slice_get, ap, ◌∙◌, arith}
use Rattle.std.proofs.lemmas.List.{take_more}
use Rattle.std.proofs.lemmas.List.Elements.{filter-append}
use Rattle.std.proofs.lemmas.List.FromFn.{length-map-range_with_len, map-range_with_len_more}
use Rattle.dl_cells.specs.Views.{total}
use Rattle.dl_cells.proofs.Totals.{total-append}
use Rattle.dl_writer.specs.State.{BookState}
use Rattle.dl_account.specs.Books.{books_of, given_by, injected_of}
use Rattle.dl_account.proofs.InOrder.{within}
use Rattle.dl_account.proofs.Joined.{other_book, own_book, read_is}

pub taken_next : {A : Type 0} (xs : List A) (place : ℕ) (x : A) → slice_get xs place ≡ Some x → take (place + 1) xs ≡ take place xs ++ x ∷ []
taken_next xs place x at = take_more xs place x (within xs place x at) ∙ ap (λ y. take place xs ++ y ∷ []) (read_is xs place x x at)

module _ (f : BookState → ℕ) (app : ℕ) where
  next_books : (books : List BookState) (place : ℕ) (b : BookState) → slice_get books place ≡ Some b
      → total f (books_of app (take (place + 1) books)) ≡ total f (books_of app (take place books)) + total f (books_of app (b ∷ []))
  next_books books place b at = ap (λ (bs : List BookState). total f (books_of app bs)) (taken_next books place b at)
      ∙ ap (total f) (filter-append (λ (c : BookState). c.writer.app == app) (take place books) (b ∷ []))
      ∙ total-append f (books_of app (take place books)) (books_of app (b ∷ []))

  -- one book of the application more
  pub sum_own : (books : List BookState) (place : ℕ) (b : BookState) → slice_get books place ≡ Some b → b.writer.app ≡ app
      → total f (books_of app (take (place + 1) books)) ≡ total f (books_of app (take place books)) + f b
  sum_own books place b at same =
      let one : total f (books_of app (b ∷ [])) ≡ f b + 0 = ap (total f) (own_book app b [] same) in
      let all = next_books books place b at in
      omega (arith, one, all)

  -- one of another application more
  pub sum_other : (books : List BookState) (place : ℕ) (b : BookState) → slice_get books place ≡ Some b → b.writer.app ≢ app
      → total f (books_of app (take (place + 1) books)) ≡ total f (books_of app (take place books))
  sum_other books place b at apart =
      let none : total f (books_of app (b ∷ [])) ≡ 0 = ap (total f) (other_book app b [] apart) in
      let all = next_books books place b at in
      omega (arith, none, all)

-- ---- a number for each application

pub given_more : (app : ℕ) (books : List BookState) → given_by (app + 1) books ≡ given_by app books ++ min (2 ^ 64 - 1) (injected_of app books) ∷ []
given_more app books = map-range_with_len_more (λ (n : ℕ). min (2 ^ 64 - 1) (injected_of n books)) 0 app app (omega arith)

pub given_length : (apps : ℕ) (books : List BookState) → length (given_by apps books) ≡ apps
given_length apps books = length-map-range_with_len (λ (n : ℕ). min (2 ^ 64 - 1) (injected_of n books)) 0 apps
