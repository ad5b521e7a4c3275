-- Books in the order of their writers' numbers have as many records together, at most.
use Rattle.std.proofs.Common.{◌≡◌, ℕ, zero, suc, ◌+◌, ◌<◌, ◌≤◌, ◌==◌, ⊎_elim, inl, inr, eq-eqb, ne_eqb, List, [], ◌∷◌, ◌++◌, length, refl, sym, ap, ◌∙◌, subst, arith}
use Rattle.std.specs.Prelude.{All, Contains, slice_index_or}
use Rattle.std.specs.List.{range_with_len}
use Rattle.std.proofs.lemmas.Bool.Decides.{eqb_tells}
use Rattle.std.proofs.lemmas.List.Elements.{All-head, All-tail, Contains-append_cases, Contains-append_left, Contains-append_right, Contains-get_or}
use Rattle.dl_cells.specs.Views.{bit, times, total}
use Rattle.dl_writer.specs.State.{BookState, numbers}
use Rattle.dl_account.specs.Making.{AreInOrder}
use Rattle.dl_settling.specs.Room.{together}

-- ---- one of a list

record Parts (ys : List BookState) (x : BookState) : Type 0 where
  before : List BookState
  after : List BookState
  parted : ys ≡ before ++ x ∷ after

parts_of : (ys : List BookState) (x : BookState) → Contains ys x → Parts ys x
parts_of [] x at = absurd (omega (arith, at.1))
parts_of (y ∷ ys) x (zero, less, is) = record { before = []; after = ys; parted = ap (λ (z : BookState). z ∷ ys) is }
parts_of (y ∷ ys) x (suc k, less, is) =
    let rest = parts_of ys x (k, omega (arith, less), is) in record { before = y ∷ rest.before; after = rest.after; parted = ap (λ (zs : List BookState). y ∷ zs) rest.parted }

only_one : (x y : BookState) → Contains (x ∷ []) y → x ≡ y
only_one x y (zero, less, is) = is
only_one x y (suc k, less, is) = absurd (omega (arith, less))

-- its number is there
there_times : (xs : List BookState) (y : BookState) → Contains xs y → 1 ≤ times y.writer.push.number (numbers xs)
there_times [] y at = absurd (omega (arith, at.1))
there_times (x ∷ xs) y (zero, less, is) =
    let one : bit (x.writer.push.number == y.writer.push.number) ≡ 1 = ap bit (eq-eqb x.writer.push.number y.writer.push.number (ap (λ (b : BookState). b.writer.push.number) is)) in omega (arith, one)
there_times (x ∷ xs) y (suc k, less, is) = omega (arith, there_times xs y (k, omega (arith, less), is))

swapped : (a b c : ℕ) → a + (b + c) ≡ b + (a + c)
swapped a b c = omega arith

total_parts : (f : BookState → ℕ) (before after : List BookState) (x : BookState) → total f (before ++ x ∷ after) ≡ f x + total f (before ++ after)
total_parts f [] after x = refl
total_parts f (b ∷ before) after x = ap (λ (n : ℕ). f b + n) (total_parts f before after x) ∙ swapped (f b) (f x) (total f (before ++ after))

-- ---- books of different writers, which are among others

among : (f : BookState → ℕ) (xs ys : List BookState) → All (Contains ys) xs → ((n : ℕ) → times n (numbers xs) ≤ 1) → total f xs ≤ total f ys
among f [] ys all apart = omega arith
among f (x ∷ xs) ys all apart =
    let parts = parts_of ys x (All-head (Contains ys) x xs all) in
    let own : bit (x.writer.push.number == x.writer.push.number) ≡ 1 = ap bit (eq-eqb x.writer.push.number x.writer.push.number refl) in
    let none : times x.writer.push.number (numbers xs) ≡ 0 = omega (arith, own, apart x.writer.push.number) in
    let rest : All (Contains (parts.before ++ parts.after)) xs = λ k d less.
    let y = slice_index_or xs k d in
    let at_y = Contains-get_or xs k d less in
    let in_ys : Contains (parts.before ++ x ∷ parts.after) y = subst (λ (zs : List BookState). Contains zs y) parts.parted (All-tail (Contains ys) x xs all k d less) in
    ⊎_elim (λ front. Contains-append_left parts.before parts.after y front)
    (λ back. ⊎_elim (λ here. absurd (omega (arith, none, there_number x y xs (only_one x y here) at_y)))
    (λ behind. Contains-append_right parts.before parts.after y behind) (Contains-append_cases (x ∷ []) parts.after y back))
    (Contains-append_cases parts.before (x ∷ parts.after) y in_ys) in
    let fewer = among f xs (parts.before ++ parts.after) rest (λ n. omega (arith, apart n)) in
    let whole : total f ys ≡ f x + total f (parts.before ++ parts.after) = ap (total f) parts.parted ∙ total_parts f parts.before parts.after x in
    omega (arith, fewer, whole)
  where
    there_number : (x y : BookState) (xs : List BookState) → x ≡ y → Contains xs y → 1 ≤ times x.writer.push.number (numbers xs)
    there_number x y xs same at = subst (λ (n : ℕ). 1 ≤ times n (numbers xs)) (ap (λ (b : BookState). b.writer.push.number) (sym same)) (there_times xs y at)

-- ---- numbers in a row stand once

none_below : (a n k : ℕ) → k < a → times k (range_with_len a n) ≡ 0
none_below a zero k less = refl
none_below a (suc n) k less =
    let here : bit (a == k) ≡ 0 = ap bit (ne_eqb a k (λ same. absurd (omega (arith, same, less)))) in omega (arith, here, none_below (a + 1) n k (omega (arith, less)))

once : (a n k : ℕ) → times k (range_with_len a n) ≤ 1
once a zero k = omega arith
once a (suc n) k = elim (eqb_tells a k) [
  | inl same ↦ (let here : bit (a == k) ≡ 1 = ap bit same.0 in omega (arith, here, none_below (a + 1) n k (omega (arith, same.1))))
  | inr other ↦ (let here : bit (a == k) ≡ 0 = ap bit other.0 in omega (arith, here, once (a + 1) n k))
]

pub together_in_order : (books ordered : List BookState) → AreInOrder books ordered → together ordered ≤ together books
together_in_order books ordered order =
    among (λ b. length b.records) ordered books order.same (λ n. subst (λ (ns : List ℕ). times n ns ≤ 1) (sym order.numbered) (once 1 (length ordered) n))

pub within_calls : (few many calls : ℕ) → few ≤ many → many ≤ calls → few ≤ calls
within_calls few many calls one other = omega (arith, one, other)
