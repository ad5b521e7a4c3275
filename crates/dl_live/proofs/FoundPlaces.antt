-- Where an account's writers asked for no more places than there were, each found one.
use Rattle.std.proofs.Common.{◌≡◌, ℕ, ◌+◌, ◌<◌, ◌≤◌, Bool, true, false, cond, eqb, List, [], ◌∷◌, length, get_or, inl, inr, refl, sym, ◌∙◌, eq-eqb, arith}
use Rattle.std.specs.Prelude.{All}
use Rattle.std.proofs.lemmas.Bool.{cases_lt}
use Rattle.std.proofs.lemmas.List.Elements.{All-cons, All-head, All-nil, All-tail}
use Rattle.dl_account.specs.Books.{books_of, registers_of}
use Rattle.dl_account.specs.Settled.{IsSettled}
use Rattle.dl_account.specs.State.{AccountState}
use Rattle.dl_writer.specs.State.{BookState}

-- what holds of an application's books holds of each of them among all
of_all : (P : BookState → Type 0) (app : ℕ) (books : List BookState) → All P (books_of app books) → All (λ b. b.writer.app ≡ app → P b) books
of_all P app [] all = All-nil (λ (b : BookState). b.writer.app ≡ app → P b)
of_all P app (b ∷ books) all = by (eqb b.writer.app app) refl all (of_all P app books) where
  by : (is : Bool) → eqb b.writer.app app ≡ is → All P (cond is (b ∷ books_of app books) (books_of app books)) → (All P (books_of app books) → All (λ b. b.writer.app ≡ app → P b) books)
      → All (λ b. b.writer.app ≡ app → P b) (b ∷ books)
  by true is all rest = All-cons (λ (b : BookState). b.writer.app ≡ app → P b) b books (λ same. All-head P b (books_of app books) all) (rest (All-tail P b (books_of app books) all))
  by false is all rest = All-cons (λ (b : BookState). b.writer.app ≡ app → P b) b books (λ same. absurd (let both : false ≡ true = sym is ∙ eq-eqb b.writer.app app same in cc)) (rest all)

pub none_full : (s : AccountState) → IsSettled s → ((app : ℕ) → All (λ b. registers_of app s.books + b.writer.base ≤ 64) (books_of app s.books))
    → All (λ b. b.writer.table_full ≡ 0) s.books
none_full s is places k d lt =
    let b : BookState = get_or s.books k d in
    let app : ℕ = b.writer.app in
    let within : app < length s.apps = is.owned k d lt in
    let fits = of_all (λ (b : BookState). registers_of app s.books + b.writer.base ≤ 64) app s.books (places app) k d lt refl in
    let full = of_all (λ (b : BookState). 0 < b.writer.table_full → 64 < registers_of app s.books + b.writer.base) app s.books (is.claimed app within).full k d lt refl in
    elim (cases_lt 0 b.writer.table_full) [
      | inl some ↦ let more = full some in absurd (omega (arith, more, fits))
      | inr none ↦ omega (arith, none)
    ]
