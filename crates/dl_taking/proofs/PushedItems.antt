-- What was taken of a ring is a part of what was pushed, by any weight of calls and claims.
use Rattle.std.proofs.Common.{◌≡◌, ℕ, ◌+◌, ◌≤◌, Bool, true, false, cond, eqb, List, [], ◌∷◌, ◌++◌, length, inl, inr, refl, sym, ap, ◌∙◌, arith}
use Rattle.std.specs.Prelude.{All, sum_by}
use Rattle.std.proofs.lemmas.Bool.Decides.{eqb_tells}
use Rattle.std.proofs.lemmas.List.Elements.{All-head, All-tail}
use Rattle.std.proofs.lemmas.List.Sums.{sum_by-append, sum_by-cons}
use Rattle.dl_ring.specs.declared.item.RingItem.{RingItem}
use Rattle.dl_ring.specs.declared.item.RingItem.TheVariants as ring
use Rattle.dl_ring.specs.Items.{calls_in, claims_in}
use Rattle.dl_ring.specs.Order.{of, writer_of}
use Rattle.dl_ring.proofs.Items.{length-calls_in}
use Rattle.dl_cells.specs.Views.{bit, times, total}
use Rattle.dl_writer.specs.State.{BookState, numbers}
use Rattle.dl_account.specs.Books.{books_of, items_pushed_of}
use Rattle.dl_account.specs.Known.{IsAllOf}
use Rattle.dl_taking.specs.Draining.{calls_pushed, claims_pushed}

-- ---- by a weight

module _ (weight : RingItem → ℕ) where
  abbrev weigh : List RingItem → ℕ
  weigh items = sum_by weight items

  abbrev number_of : BookState → ℕ
  number_of b = b.writer.push.number

  -- what was pushed under the numbers of these books
  abbrev weigh_of : List RingItem → List BookState → ℕ
  weigh_of items books = total (λ (b : BookState). weigh (of (number_of b) items)) books

  cons_more : (number : ℕ) (item : RingItem) (items : List RingItem) → weigh (of number items) ≤ weigh (of number (item ∷ items))
  cons_more number item items = by (eqb (writer_of item) number) where
    by : (b : Bool) → weigh (of number items) ≤ weigh (cond b (item ∷ of number items) (of number items))
    by true = omega (arith, sum_by-cons weight item (of number items))
    by false = omega arith

  cons_own : (number : ℕ) (item : RingItem) (items : List RingItem) → writer_of item ≡ number → weigh (of number (item ∷ items)) ≡ weight item + weigh (of number items)
  cons_own number item items same = elim (eqb_tells (writer_of item) number) [
    | inl is ↦ rw is.0 (sum_by-cons weight item (of number items))
    | inr apart ↦ absurd (apart.1 same)
  ]

  all_more : (item : RingItem) (items : List RingItem) (books : List BookState) → weigh_of items books ≤ weigh_of (item ∷ items) books
  all_more item items [] = omega arith
  all_more item items (b ∷ books) = omega (arith, cons_more (number_of b) item items, all_more item items books)

  -- an item that was pushed under one of the numbers
  nobody_more : (n m : ℕ) (ns : List ℕ) → eqb n m ≡ false → times m ns ≡ 0 → times m (n ∷ ns) ≡ 0
  nobody_more n m ns apart none = let here : bit (eqb n m) ≡ 0 = ap bit apart in omega (arith, here, none)

  one_more : (item : RingItem) (items : List RingItem) (books : List BookState) → (times (writer_of item) (numbers books) ≡ 0 → ⊥) → weight item + weigh_of items books ≤ weigh_of (item ∷ items) books
  one_more item items [] some = absurd (some refl)
  one_more item items (b ∷ books) some = elim (eqb_tells (number_of b) (writer_of item)) [
    | inl same ↦ omega (arith, cons_own (number_of b) item items (sym same.1), all_more item items books)
    | inr apart ↦ (
        let rest = one_more item items books (λ none. some (nobody_more (number_of b) (writer_of item) (numbers books) apart.0 none)) in
        omega (arith, cons_more (number_of b) item items, rest)
        )
  ]

  abbrev NoOthers : List RingItem → List BookState → Type 0
  NoOthers items books = (number : ℕ) → times number (numbers books) ≡ 0 → of number items ≡ []

  its_own : (item : RingItem) (items : List RingItem) → of (writer_of item) (item ∷ items) ≡ [] → ⊥
  its_own item items none = elim (eqb_tells (writer_of item) (writer_of item)) [
    | inl is ↦ cc (sym (ap (λ (b : Bool). cond b (item ∷ of (writer_of item) items) (of (writer_of item) items)) is.0) ∙ none)
    | inr apart ↦ apart.1 refl
  ]

  of_rest : (number : ℕ) (item : RingItem) (items : List RingItem) → of number (item ∷ items) ≡ [] → of number items ≡ []
  of_rest number item items none = by (eqb (writer_of item) number) none where
    by : (b : Bool) → cond b (item ∷ of number items) (of number items) ≡ [] → of number items ≡ []
    by true none = absurd (cc none)
    by false none = none

  -- all of it was pushed under these numbers
  pub all_weigh : (items : List RingItem) (books : List BookState) → NoOthers items books → weigh items ≤ weigh_of items books
  all_weigh [] books none = omega arith
  all_weigh (item ∷ items) books none =
      let rest = all_weigh items books (λ number nobody. of_rest number item items (none number nobody)) in
      let one = one_more item items books (λ nobody. its_own item items (none (writer_of item) nobody)) in
      omega (arith, rest, one, sum_by-cons weight item items)

  pushed_weigh : (items : List RingItem) (books : List BookState) → All (λ (b : BookState). of (number_of b) items ≡ b.writer.push.pushed) books
      → weigh_of items books ≡ total (λ (b : BookState). weigh b.writer.push.pushed) books
  pushed_weigh items [] each = refl
  pushed_weigh items (b ∷ books) each =
      let head : of (number_of b) items ≡ b.writer.push.pushed = All-head (λ (b : BookState). of (number_of b) items ≡ b.writer.push.pushed) b books each in
      omega (arith, ap weigh head, pushed_weigh items books (All-tail (λ (b : BookState). of (number_of b) items ≡ b.writer.push.pushed) b books each))

  -- so what was taken of an application's ring is no more than its writers pushed
  pub taken_weigh : (app : ℕ) (books : List BookState) (taken contents : List RingItem) → IsAllOf app books (taken ++ contents)
      → weigh taken ≤ total (λ (b : BookState). weigh b.writer.push.pushed) (books_of app books)
  taken_weigh app books taken contents all =
      omega (arith, sum_by-append weight taken contents, all_weigh (taken ++ contents) (books_of app books) all.no_others, pushed_weigh (taken ++ contents) (books_of app books) all.each)

-- ---- calls and claims

abbrev is_call : RingItem → ℕ
is_call (ring.Log item) = 1
is_call (ring.Register claim) = 0

abbrev is_claim : RingItem → ℕ
is_claim (ring.Log item) = 0
is_claim (ring.Register claim) = 1

calls_weigh : (items : List RingItem) → sum_by is_call items ≡ length (calls_in items)
calls_weigh [] = refl
calls_weigh (ring.Log item ∷ items) = omega (arith, sum_by-cons is_call (ring.Log item) items, calls_weigh items)
calls_weigh (ring.Register claim ∷ items) = omega (arith, sum_by-cons is_call (ring.Register claim) items, calls_weigh items)

claims_weigh : (items : List RingItem) → sum_by is_claim items ≡ length (claims_in items)
claims_weigh [] = refl
claims_weigh (ring.Log item ∷ items) = omega (arith, sum_by-cons is_claim (ring.Log item) items, claims_weigh items)
claims_weigh (ring.Register claim ∷ items) = omega (arith, sum_by-cons is_claim (ring.Register claim) items, claims_weigh items)

module _ (weight : RingItem → ℕ) (count : List RingItem → ℕ) (same : (items : List RingItem) → sum_by weight items ≡ count items) where
  total_weigh : (books : List BookState) → total (λ (b : BookState). sum_by weight b.writer.push.pushed) books ≡ total (λ (b : BookState). count b.writer.push.pushed) books
  total_weigh [] = refl
  total_weigh (b ∷ books) = omega (arith, same b.writer.push.pushed, total_weigh books)

-- no more calls were taken than pushed, and no more claims
pub record AreFewer (books : List BookState) (taken : List RingItem) (app : ℕ) : Type 0 where
  pub calls : length (calls_in taken) ≤ calls_pushed app books
  pub claims : length (claims_in taken) ≤ claims_pushed app books

pub fewer_taken : (app : ℕ) (books : List BookState) (taken contents : List RingItem) → IsAllOf app books (taken ++ contents) → AreFewer books taken app
fewer_taken app books taken contents all = record {
  calls = omega (arith, taken_weigh is_call app books taken contents all, calls_weigh taken, total_weigh is_call (λ items. length (calls_in items)) calls_weigh (books_of app books));
  claims = omega (arith, taken_weigh is_claim app books taken contents all, claims_weigh taken, total_weigh is_claim (λ items. length (claims_in items)) claims_weigh (books_of app books));
}

-- what was pushed is calls and claims
all_parts : (books : List BookState) → total (λ (b : BookState). length b.writer.push.pushed) books
    ≡ total (λ (b : BookState). length (calls_in b.writer.push.pushed)) books + total (λ (b : BookState). length (claims_in b.writer.push.pushed)) books
all_parts [] = refl
all_parts (b ∷ books) = omega (arith, length-calls_in b.writer.push.pushed, all_parts books)

pub pushed_parts : (app : ℕ) (books : List BookState) → items_pushed_of app books ≡ calls_pushed app books + claims_pushed app books
pushed_parts app books = all_parts (books_of app books)
