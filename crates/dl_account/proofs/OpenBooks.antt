-- The books of a desk's writers, as more of them are made: numbered one after the other.
use Rattle.std.proofs.Common.{◌≡◌, ℕ, zero, suc, ◌+◌, ◌-◌, ◌<◌, ◌≤◌, ◌==◌, Bool, true, false, List, [], ◌∷◌, ◌++◌, length, map, Some, slice_get, refl, sym, ap, ◌∙◌, subst, ne_eqb, length-append, inl, inr, arith}
use Rattle.std.specs.Prelude.{All, Contains}
use Rattle.std.specs.List.{range_with_len}
use Rattle.std.proofs.lemmas.Bool.{eqb-true}
use Rattle.std.proofs.lemmas.List.{map-append}
use Rattle.std.proofs.lemmas.List.Elements.{All-cons, All-contains, All-head, All-nil, All-push, All-tail, All-weaker, Contains-append_cases}
use Rattle.dl_bytes.specs.declared.conf.AppSpec.{AppSpec}
use Rattle.dl_cells.specs.Views.{bit, times}
use Rattle.dl_cells.proofs.Bits.{bit_small}
use Rattle.dl_writer.specs.State.{BookState, WriterState, numbers}
use Rattle.dl_desk.specs.Apps.{AppState}
use Rattle.dl_desk.specs.Handles.{HandlesState}
use Rattle.dl_desk.specs.Made.{IsAppOf, IsLater, IsMadeWith, MakesWriter}
use Rattle.dl_desk.specs.State.{DeskState}
use Rattle.dl_account.specs.Making.{AreInOrder, AreMadeWith, SameBases}
use Rattle.dl_account.proofs.InOrder.{range_more}
use Rattle.dl_lemmas.proofs.Lists.{head_is, tail_is}

-- ---- writers of a desk, as it goes on

get_longer : (xs ys : List ℕ) (n x : ℕ) → slice_get xs n ≡ Some x → slice_get (xs ++ ys) n ≡ Some x
get_longer [] ys n x is = absurd cc
get_longer (y ∷ xs) ys zero x is = is
get_longer (y ∷ xs) ys (suc n) x is = get_longer xs ys n x is

-- a writer stays one of the desk
pub stays : (old new : DeskState) (w : WriterState) → IsLater old new → IsMadeWith old w → IsMadeWith new w
stays old new w later made = record {
  from_one = made.from_one;
  apid = ap (λ (apps : List AppSpec). slice_get (map (λ s. s.apid) apps) w.app) later.apps ∙ made.apid;
  owner = ap (λ (os : List ℕ). slice_get os (w.push.number - 1)) later.owners ∙ get_longer old.owners later.more (w.push.number - 1) w.app made.owner;
  ring = ap (λ l. slice_get l w.app) later.rings ∙ made.ring;
  queue = ap (λ l. slice_get l w.app) later.queues ∙ made.queue;
  capacity = ap (λ (apps : List AppSpec). slice_get (map (λ s. s.capacity) apps) w.app) later.apps ∙ made.capacity;
  levels = made.levels ∙ sym later.levels;
  claims = made.claims ∙ sym later.claims;
  losses = made.losses ∙ sym later.losses;
  split = made.split;
}

pub stay : (old new : DeskState) (books : List BookState) → IsLater old new → All (λ b. IsMadeWith old b.writer) books → All (λ b. IsMadeWith new b.writer) books
stay old new books later made = All-weaker (λ (b : BookState). IsMadeWith old b.writer) (λ (b : BookState). IsMadeWith new b.writer) (λ b one. stays old new b.writer later one) books made

pub one_writer : (app : ℕ) (old new : DeskState) → MakesWriter app old new → IsLater old new
one_writer app old new makes = record {
  apps = makes.apps;
  rings = ap (λ (e : HandlesState). map (λ e. e.ring.ring) e.apps) makes.handles;
  queues = ap (λ (e : HandlesState). map (λ e. e.queue.queue) e.apps) makes.handles;
  levels = ap (λ (e : HandlesState). e.levels.table) makes.handles;
  claims = ap (λ (e : HandlesState). e.levels.claims) makes.handles;
  losses = ap (λ (e : HandlesState). e.losses.table) makes.handles;
  more = app ∷ [];
  owners = makes.owners;
}

-- an application stays the desk's one, whatever else it is
pub same_app : (old new : DeskState) (app now : AppState) → new.apps ≡ old.apps → now.number ≡ app.number → now.apid ≡ app.apid → IsAppOf old app → IsAppOf new now
same_app old new app now same number apid is = record {
  spec = is.spec;
  place = ap (slice_get new.apps) number ∙ ap (λ (apps : List AppSpec). slice_get apps app.number) same ∙ is.place;
  apid = apid ∙ is.apid;
}

-- ---- the books so far

-- the books of all writers that the desk made, in the order in which it made them
pub record AreOpen (desk : DeskState) (books : List BookState) (count : ℕ) : Type 0 where
  pub made : All (λ b. IsMadeWith desk b.writer) books
  pub numbered : numbers books ≡ range_with_len 1 count
  pub owners : length desk.owners ≡ count

pub one_open : (app : ℕ) (old new : DeskState) (books : List BookState) (b : BookState) (count : ℕ) → AreOpen old books count → MakesWriter app old new → IsMadeWith new b.writer
    → b.writer.push.number ≡ length old.owners + 1 → AreOpen new (books ++ b ∷ []) (count + 1)
one_open app old new books b count open_so makes made number =
    let owners = open_so.owners in
    let next : b.writer.push.number ≡ 1 + count = omega (arith, number, owners) in
    let more : count + 1 ≡ suc count = omega arith in
    record {
      made = All-push (λ (b : BookState). IsMadeWith new b.writer) books b (stay old new books (one_writer app old new makes) open_so.made) made;
      numbered = map-append (λ (b : BookState). b.writer.push.number) books (b ∷ []) ∙ ap (λ (l : List ℕ). l ++ b.writer.push.number ∷ []) open_so.numbered
          ∙ ap (λ (n : ℕ). range_with_len 1 count ++ n ∷ []) next ∙ sym (range_more 1 count) ∙ ap (range_with_len 1) (sym more);
      owners = (let longer = ap length makes.owners ∙ length-append old.owners (app ∷ []) in omega (arith, longer, owners));
    }

-- ---- numbers in a row are apart

times_below : (n from count : ℕ) → n < from → times n (range_with_len from count) ≡ 0
times_below n from zero below = refl
times_below n from (suc count) below =
    let this : bit (from == n) ≡ 0 = ap bit (ne_eqb from n (λ same. omega (arith, same, below))) in
    let rest = times_below n (from + 1) count (omega (arith, below)) in
    omega (arith, this, rest)

times_range : (n from count : ℕ) → times n (range_with_len from count) ≤ 1
times_range n from zero = omega arith
times_range n from (suc count) = by_test (from == n) refl (times_range n (from + 1) count) where
  by_test : (b : Bool) → (from == n) ≡ b → times n (range_with_len (from + 1) count) ≤ 1 → bit (from == n) + times n (range_with_len (from + 1) count) ≤ 1
  by_test true is rest =
      let same : from ≡ n = eqb-true from n is in
      let none = times_below n (from + 1) count (omega (arith, same)) in
      let small = bit_small (from == n) in
      omega (arith, none, small)
  by_test false is rest = let none : bit (from == n) ≡ 0 = ap bit is in omega (arith, none, rest)

pub made_with : (desk : DeskState) (books : List BookState) (count : ℕ) → All (λ b. IsMadeWith desk b.writer) books → numbers books ≡ range_with_len 1 count → SameBases books → AreMadeWith desk books
made_with desk books count made numbered bases = record {
  each = made;
  apart = λ n. subst (λ (l : List ℕ). times n l ≤ 1) (sym numbered) (times_range n 1 count);
  bases = bases;
}

-- those of one application have one base
pub same_bases : (base : ℕ → ℕ) (books : List BookState) → All (λ b. b.writer.base ≡ base b.writer.app) books → SameBases books
same_bases base books all = λ k d lt k' d' lt' same. all k d lt ∙ ap base same ∙ sym (all k' d' lt')

-- ---- books that came in order

-- in books that are numbered from here on none has a lower number
from_here : (a : ℕ) (books : List BookState) → numbers books ≡ range_with_len a (length books) → All (λ b. a ≤ b.writer.push.number) books
from_here a [] numbered = All-nil (λ (b : BookState). a ≤ b.writer.push.number)
from_here a (b ∷ books) numbered =
    let first = head_is b.writer.push.number a (numbers books) (range_with_len (a + 1) (length books)) numbered in
    let rest = from_here (a + 1) books (tail_is b.writer.push.number a (numbers books) (range_with_len (a + 1) (length books)) numbered) in
    All-cons (λ (b : BookState). a ≤ b.writer.push.number) b books (omega (arith, first))
    (All-weaker (λ (b : BookState). a + 1 ≤ b.writer.push.number) (λ (b : BookState). a ≤ b.writer.push.number) (λ b high. omega (arith, high)) books rest)

one_alone : (b x : BookState) → Contains (b ∷ []) x → b ≡ x
one_alone b x (zero, less, is) = is
one_alone b x (suc k, less, is) = absurd (omega (arith, less))

-- what is among these and has another number than the first is among the others
others : (a : ℕ) (y : BookState) (ys xs : List BookState) → y.writer.push.number ≡ a → All (λ b. a + 1 ≤ b.writer.push.number) xs → All (Contains (y ∷ ys)) xs → All (Contains ys) xs
others a y ys [] is high there = All-nil (Contains ys)
others a y ys (x ∷ xs) is high there =
    All-cons (Contains ys) x xs
    (elim (Contains-append_cases (y ∷ []) ys x (All-head (Contains (y ∷ ys)) x xs there)) [
      | inl first ↦
          let same = ap (λ (b : BookState). b.writer.push.number) (one_alone y x first) in
          let above = All-head (λ (b : BookState). a + 1 ≤ b.writer.push.number) x xs high in
          absurd (omega (arith, same, above, is))
      | inr rest ↦ rest
    ])
    (others a y ys xs is (All-tail (λ (b : BookState). a + 1 ≤ b.writer.push.number) x xs high) (All-tail (Contains (y ∷ ys)) x xs there))

same_books : (a : ℕ) (xs ys : List BookState) → numbers xs ≡ range_with_len a (length xs) → numbers ys ≡ range_with_len a (length ys) → length xs ≡ length ys → All (Contains ys) xs → xs ≡ ys
same_books a [] [] numbered numbered_too long there = refl
same_books a [] (y ∷ ys) numbered numbered_too long there = absurd (omega (arith, long))
same_books a (x ∷ xs) [] numbered numbered_too long there = absurd (omega (arith, long))
same_books a (x ∷ xs) (y ∷ ys) numbered numbered_too long there =
    let x_is = head_is x.writer.push.number a (numbers xs) (range_with_len (a + 1) (length xs)) numbered in
    let y_is = head_is y.writer.push.number a (numbers ys) (range_with_len (a + 1) (length ys)) numbered_too in
    let xs_numbered = tail_is x.writer.push.number a (numbers xs) (range_with_len (a + 1) (length xs)) numbered in
    let ys_numbered = tail_is y.writer.push.number a (numbers ys) (range_with_len (a + 1) (length ys)) numbered_too in
    let rest = same_books (a + 1) xs ys xs_numbered ys_numbered (omega (arith, long))
    (others a y ys xs y_is (from_here (a + 1) xs xs_numbered) (All-tail (Contains (y ∷ ys)) x xs there)) in
    let first : x ≡ y = elim (Contains-append_cases (y ∷ []) ys x (All-head (Contains (y ∷ ys)) x xs there)) [
      | inl here ↦ sym (one_alone y x here)
      | inr behind ↦
          let above = All-contains (λ (b : BookState). a + 1 ≤ b.writer.push.number) ys x (from_here (a + 1) ys ys_numbered) behind in
          absurd (omega (arith, above, x_is))
    ] in
    cc

pub stay_in_order : (books ordered : List BookState) → numbers books ≡ range_with_len 1 (length books) → AreInOrder books ordered → ordered ≡ books
stay_in_order books ordered numbered order = same_books 1 ordered books order.numbered numbered order.long order.same
