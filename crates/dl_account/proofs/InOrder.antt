-- Books that are put in the order of their writers' numbers, one after another.
use Rattle.std.proofs.Common.{◌≡◌, ℕ, zero, suc, ◌+◌, ◌-◌, ◌<◌, ◌≤◌, inl, inr, ⊎_elim, List, [], ◌∷◌, ◌++◌, length, length-append, append-nil, refl, sym, ap, ◌∙◌, subst, arith, eqb, eq-eqb, ne_eqb}
use Rattle.std.specs.Prelude.{All, Contains, Some, slice_get}
use Rattle.std.specs.List.{range_with_len}
use Rattle.std.proofs.lemmas.Bool.{cases_eq}
use Rattle.std.proofs.lemmas.List.{length-map, map-append}
use Rattle.std.proofs.lemmas.List.Elements.{All-nil, All-cons, All-head, All-tail, All-append, All-push, All-weaker, All-contains, All-contains_itself, Contains-append_left, Contains-append_right, Contains-append_cases}
use Rattle.std.proofs.lemmas.List.FromFn.{length-range_with_len}
use Rattle.dl_cells.specs.Views.{bit, times}
use Rattle.dl_cells.proofs.Totals.{times-append}
use Rattle.dl_writer.specs.State.{BookState, numbers}
use Rattle.dl_desk.specs.Made.{IsMadeWith}
use Rattle.dl_desk.specs.State.{DeskState}
use Rattle.dl_account.specs.Making.{AreAmong, AreInOrder, AreMadeWith, AreNumberedTo, SameBases}

-- ---- lists

module _ {X : Type 0} where
  pub all_front : (P : X → Type 0) (xs ys : List X) → All P (xs ++ ys) → All P xs
  all_front P [] ys h = All-nil P
  all_front P (x ∷ xs) ys h = All-cons P x xs (All-head P x (xs ++ ys) h) (all_front P xs ys (All-tail P x (xs ++ ys) h))

  pub all_back : (P : X → Type 0) (xs ys : List X) → All P (xs ++ ys) → All P ys
  all_back P [] ys h = h
  all_back P (x ∷ xs) ys h = all_back P xs ys (All-tail P x (xs ++ ys) h)

  -- one taken out of the middle and put behind the others
  moved : (before after others : List X) (b x : X) → Contains ((before ++ b ∷ after) ++ others) x → Contains ((before ++ after) ++ (others ++ b ∷ [])) x
  moved before after others b x h = ⊎_elim left right (Contains-append_cases (before ++ b ∷ after) others x h) where
    right : Contains others x → Contains ((before ++ after) ++ (others ++ b ∷ [])) x
    right at = Contains-append_right (before ++ after) (others ++ b ∷ []) x (Contains-append_left others (b ∷ []) x at)

    last : Contains (b ∷ []) x → Contains ((before ++ after) ++ (others ++ b ∷ [])) x
    last at = Contains-append_right (before ++ after) (others ++ b ∷ []) x (Contains-append_right others (b ∷ []) x at)

    behind : Contains after x → Contains ((before ++ after) ++ (others ++ b ∷ [])) x
    behind at = Contains-append_left (before ++ after) (others ++ b ∷ []) x (Contains-append_right before after x at)

    front : Contains before x → Contains ((before ++ after) ++ (others ++ b ∷ [])) x
    front at = Contains-append_left (before ++ after) (others ++ b ∷ []) x (Contains-append_left before after x at)

    left : Contains (before ++ b ∷ after) x → Contains ((before ++ after) ++ (others ++ b ∷ [])) x
    left at = ⊎_elim front (λ rest. ⊎_elim last behind (Contains-append_cases (b ∷ []) after x rest)) (Contains-append_cases before (b ∷ after) x at)

  pub within : (xs : List X) (place : ℕ) (x : X) → slice_get xs place ≡ Some x → place < length xs
  within [] place x at = absurd cc
  within (y ∷ xs) zero x at = omega arith
  within (y ∷ xs) (suc place) x at = let rest = within xs place x at in omega (arith, rest)

-- ---- numbers in a row

pub range_more : (a n : ℕ) → range_with_len a (suc n) ≡ range_with_len a n ++ (a + n) ∷ []
range_more a zero = let same : a ≡ a + 0 = omega arith in ap (λ (k : ℕ). k ∷ []) same
range_more a (suc n) =
    let same : a + 1 + n ≡ a + suc n = omega arith in
    ap (λ ns. a ∷ ns) (range_more (a + 1) n ∙ ap (λ (k : ℕ). range_with_len (a + 1) n ++ k ∷ []) same)

pub none_above : (a n k : ℕ) → a + n ≤ k → times k (range_with_len a n) ≡ 0
none_above a zero k high = refl
none_above a (suc n) k high =
    let rest = none_above (a + 1) n k (omega (arith, high)) in
    let apart : bit (eqb a k) ≡ 0 = ap bit (ne_eqb a k (λ same. omega (arith, high, same))) in
    omega (arith, rest, apart)

pub one_within : (a n k : ℕ) → a ≤ k → k < a + n → 1 ≤ times k (range_with_len a n)
one_within a zero k low high = absurd (omega (arith, low, high))
one_within a (suc n) k low high = elim (cases_eq a k) [
  | inl same ↦ let here : bit (eqb a k) ≡ 1 = ap bit (eq-eqb a k same) in omega (arith, here)
  | inr apart ↦ let rest = one_within (a + 1) n k (omega (arith, low, apart)) (omega (arith, high)) in omega (arith, rest)
]

-- a book's number is among the numbers
pub number_there : (b : BookState) (books : List BookState) → 1 ≤ times b.writer.push.number (numbers (b ∷ books))
number_there b books = let here : bit (eqb b.writer.push.number b.writer.push.number) ≡ 1 = ap bit (eq-eqb b.writer.push.number b.writer.push.number refl) in omega (arith, here)

numbers-append : (xs ys : List BookState) → numbers (xs ++ ys) ≡ numbers xs ++ numbers ys
numbers-append xs ys = map-append (λ (b : BookState). b.writer.push.number) xs ys

times_numbers-append : (n : ℕ) (xs ys : List BookState) → times n (numbers (xs ++ ys)) ≡ times n (numbers xs) + times n (numbers ys)
times_numbers-append n xs ys = ap (times n) (numbers-append xs ys) ∙ times-append n (numbers xs) (numbers ys)

-- ---- one book after another

-- after `made` books: those that are left, and those that are in order
pub record IsSoFar (books rest ordered : List BookState) (made : ℕ) : Type 0 where
  pub numbered : numbers ordered ≡ range_with_len 1 made
  pub long : length rest + length ordered ≡ length books
  pub counts : (n : ℕ) → times n (numbers rest) + times n (numbers ordered) ≡ times n (numbers books)
  pub all : All (Contains (rest ++ ordered)) books
  pub left : All (Contains books) rest
  pub same : All (Contains books) ordered

pub one_more : (books before after ordered : List BookState) (b : BookState) (made : ℕ) → IsSoFar books (before ++ b ∷ after) ordered made
    → b.writer.push.number ≡ made + 1 → IsSoFar books (before ++ after) (ordered ++ b ∷ []) (made + 1)
one_more books before after ordered b made s is =
    let next : b.writer.push.number ≡ 1 + made = omega (arith, is) in
    record {
      numbered = numbers-append ordered (b ∷ []) ∙ ap (λ ns. ns ++ b.writer.push.number ∷ []) s.numbered
          ∙ ap (λ (n : ℕ). range_with_len 1 made ++ n ∷ []) next ∙ sym (range_more 1 made) ∙ ap (range_with_len 1) (suc_is made);
      long = (let a = length-append before after in let c = length-append ordered (b ∷ []) in let d = length-append before (b ∷ after) in let long = s.long in omega (arith, a, c, d, long));
      counts = λ n. (
          let a = times_numbers-append n before after in
          let c = times_numbers-append n ordered (b ∷ []) in
          let d = times_numbers-append n before (b ∷ after) in
          let e = times_numbers-append n (b ∷ []) after in
          let counts = s.counts n in
          omega (arith, a, c, d, e, counts));
      all = All-weaker _ _ (moved before after ordered b) books s.all;
      left = All-append (Contains books) before after (all_front (Contains books) before (b ∷ after) s.left)
          (All-tail (Contains books) b after (all_back (Contains books) before (b ∷ after) s.left));
      same = All-push (Contains books) ordered b s.same (All-head (Contains books) b after (all_back (Contains books) before (b ∷ after) s.left));
    } where
      suc_is : (n : ℕ) → suc n ≡ n + 1
      suc_is n = omega arith

-- before the first one
pub starts : (books none : List BookState) → none ≡ [] → IsSoFar books books none 0
starts books none is = subst (λ (n : List BookState). IsSoFar books books n 0) (sym is) (record {
  numbered = refl;
  long = omega arith;
  counts = λ n. omega arith;
  all = subst (λ (l : List BookState). All (Contains l) books) (sym (append-nil books)) (All-contains_itself books);
  left = All-contains_itself books;
  same = All-nil (Contains books);
})

-- one book more, taken out and added
pub goes_on : (books rest ordered before after rest_after ordered_after : List BookState) (b : BookState) (made : ℕ) → IsSoFar books rest ordered made
    → rest ≡ before ++ b ∷ after → rest_after ≡ before ++ after → ordered_after ≡ ordered ++ b ∷ [] → b.writer.push.number ≡ made + 1
    → IsSoFar books rest_after ordered_after (made + 1)
goes_on books rest ordered before after rest_after ordered_after b made s parted taken added is =
    subst (λ (r : List BookState). IsSoFar books r ordered_after (made + 1)) (sym taken)
    (subst (λ (o : List BookState). IsSoFar books (before ++ after) o (made + 1)) (sym added)
    (one_more books before after ordered b made (subst (λ (r : List BookState). IsSoFar books r ordered made) parted s) is))

pub so_many : (books rest ordered : List BookState) (made : ℕ) → IsSoFar books rest ordered made → length ordered ≡ made
so_many books rest ordered made s = sym (length-map ordered (λ (b : BookState). b.writer.push.number)) ∙ ap length s.numbered ∙ length-range_with_len 1 made

pub next_is_there : (books rest ordered : List BookState) (made done : ℕ) → AreNumberedTo made books → IsSoFar books rest ordered done → done < made
    → 1 ≤ times (done + 1) (numbers rest)
next_is_there books rest ordered made done all s less =
    let one = all.all (done + 1) (omega arith) (omega (arith, less)) in
    let none = ap (times (done + 1)) s.numbered ∙ none_above 1 done (done + 1) (omega arith) in
    let counts = s.counts (done + 1) in
    omega (arith, one, none, counts)

-- where all numbers are among those in order, no book is left
none_left : (books rest ordered : List BookState) (made : ℕ) → AreNumberedTo made books → IsSoFar books rest ordered made → rest ≡ []
none_left books [] ordered made all s = refl
none_left books (b ∷ rest) ordered made all s =
    let range = All-contains (λ (b : BookState). (1 ≤ b.writer.push.number) × (b.writer.push.number ≤ made)) books b all.range (All-head (Contains books) b rest s.left) in
    let here = number_there b rest in
    let there : 1 ≤ times b.writer.push.number (numbers ordered) =
    subst (λ (ns : List ℕ). 1 ≤ times b.writer.push.number ns) (sym s.numbered) (one_within 1 made b.writer.push.number range.0 (omega (arith, range.1))) in
    let counts = s.counts b.writer.push.number in
    let apart = all.apart b.writer.push.number in
    absurd (omega (arith, here, there, counts, apart))

pub all_in_order : (books rest ordered : List BookState) (made : ℕ) → AreNumberedTo made books → IsSoFar books rest ordered made → AreInOrder books ordered × (length ordered ≡ made)
all_in_order books rest ordered made all s =
    let none = none_left books rest ordered made all s in
    let count = so_many books rest ordered made s in
    let left : length rest ≡ 0 = ap length none in
    let long = s.long in (
      record {
        numbered = s.numbered ∙ ap (range_with_len 1) (sym count);
        long = omega (arith, left, long);
        all = subst (λ (r : List BookState). All (Contains (r ++ ordered)) books) none s.all;
        same = s.same;
      },
      count,
    )

pub are_numbered : (desk : DeskState) (books : List BookState) → AreMadeWith desk books → AreAmong books (length desk.owners) → AreNumberedTo (length desk.owners) books
are_numbered desk books made all = record {
  all = all;
  apart = made.apart;
  range = All-weaker (λ (b : BookState). IsMadeWith desk b.writer) (λ (b : BookState). (1 ≤ b.writer.push.number) × (b.writer.push.number ≤ length desk.owners)) (λ b m. (m.from_one, omega (arith, within desk.owners (b.writer.push.number - 1) b.writer.app m.owner))) books made.each;
}

pub all_of_ordered : (P : BookState → Type 0) (books ordered : List BookState) → AreInOrder books ordered → All P books → All P ordered
all_of_ordered P books ordered order all = All-weaker (Contains books) P (λ b at. All-contains P books b all at) ordered order.same

pub bases_of_ordered : (books ordered : List BookState) → AreInOrder books ordered → SameBases books → SameBases ordered
bases_of_ordered books ordered order bases = all_of_ordered (λ (b : BookState). All (λ (c : BookState). b.writer.app ≡ c.writer.app → b.writer.base ≡ c.writer.base) ordered) books ordered order
    (All-weaker (λ (b : BookState). All (λ (c : BookState). b.writer.app ≡ c.writer.app → b.writer.base ≡ c.writer.base) books) (λ (b : BookState). All (λ (c : BookState). b.writer.app ≡ c.writer.app → b.writer.base ≡ c.writer.base) ordered)
    (λ b all. all_of_ordered (λ (c : BookState). b.writer.app ≡ c.writer.app → b.writer.base ≡ c.writer.base) books ordered order all) books bases)
